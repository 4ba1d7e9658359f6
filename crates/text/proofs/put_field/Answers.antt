-- `text::put_field` meets its contract: `put_then` joins the name and the number.
use Rattle.text.proofs.PutLaws.{put_then}
use Rattle.text.proofs.put_field.Goals as goal

pub returns-clause-put : goal.returns-clause-put
returns-clause-put c = put_then c.put_bytes-next.ensures c.put_decimal.ensures.put
