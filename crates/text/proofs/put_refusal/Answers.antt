-- `text::put_refusal` meets its contract: `put_then` joins the number, the line and the newline.
use borrow.Author.Rules.{rules}
use Rattle.text.proofs.PutLaws.{put_then, put_front}
use Rattle.text.proofs.put_refusal.Goals as goal

pub returns : goal.returns
returns c = put_front (put_then (put_then c.put_field-next.ensures.put c.put_field-end.ensures.put) c.put_bytes.ensures) (search rules)
