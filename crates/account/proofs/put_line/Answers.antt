-- `account::put_line` meets its contract: `put_more` joins its two parts.
use Rattle.text.proofs.PutLaws.{put_more}
use Rattle.account.proofs.put_line.Goals as goal

pub returns-clause-put : goal.returns-clause-put
returns-clause-put c =
    put_more _ _ _ c.put_mark.ensures.put (rw (c.printed_size-size.ensures, c.words_of-words.ensures) at c.put_charge.ensures.put)
