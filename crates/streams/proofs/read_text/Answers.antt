-- What a read gave stands behind what came before.
-- Kept (proof): `Consumes-then` concludes a type made by cases and does not show the text in between.
use Rattle.std.proofs.Common.{◌≡◌, ℕ, ◌+◌, ◌≤◌, List, ◌++◌, drop, rules, length, take, sym, ap, ◌∙◌, subst, le_refl, drop_at, length-take-le}
use Rattle.std.proofs.lemmas.Slice.{take-put_mid_below}
use Rattle.std.specs.Io.KnownBytes.{Consumes}
use borrow.Rule.Slice.PartMut.{put_mid, post_of}
use lib.Seq.{take-add, take-append-le}
use Rattle.streams.proofs.Known.{Consumes-then}
use Rattle.streams.proofs.read_text.Goals as goal

-- the bytes before a, and the first n of those written from a on
take_put : (a k n : ℕ) (xs ys : List ℕ) → a ≤ length xs → n ≤ length ys → take (a + n) (put_mid a k xs ys) ≡ take a xs ++ take n ys
take_put a k n xs ys within fits =
    let after = post_of a k xs in
    take-add a n (put_mid a k xs ys) ∙ ap (λ l. l ++ take n (drop a (put_mid a k xs ys))) (take-put_mid_below _ _ _ _ _ (le_refl _) within)
    ∙ ap (λ l. take a xs ++ l) (ap (take n) (drop_at (take a xs) (ys ++ after) a (length-take-le a xs within)) ∙ take-append-le n ys after fits)

pub loop-filled-preserved : goal.loop-filled-preserved
loop-filled-preserved g c =
    let l = c.loop-filled in
    let fits = c.in-Ok.ensures.bound.0 in (
      search rules,
      subst (Consumes _ _) (sym (take_put l.filled _ c.in-Ok.came l.text c.read.new.buf l.invariant.0 fits))
          (Consumes-then _ _ _ _ _ l.invariant.1 c.in-Ok.ensures.bytes.0),
    )
