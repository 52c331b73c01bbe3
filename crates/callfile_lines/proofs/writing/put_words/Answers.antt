-- `callfile_lines::writing::put_words` meets its contract. Assumes nothing.
-- Kept (proof): five columns put one after the other: over a record and its fields `grind` makes no instance of the law.
use Rattle.callfile.specs.Lines.{spelled}
use Rattle.callfile_lines.proofs.Puts.{words_put}
use Rattle.callfile_lines.proofs.writing.put_words.Goals as goal

pub returns : goal.returns
returns c =
    let a = c.args in
    words_put (spelled a.w) a.at a.out.now c.put_plain.new.out c.put_plain-2.new.out c.put_plain-3.new.out c.put_plain-4.new.out c.put_plain-5.new.out
    c.requires.0 c.requires.1 c.put_plain.ensures c.put_plain-2.ensures c.put_plain-3.ensures c.put_plain-4.ensures c.put_plain-5.ensures
