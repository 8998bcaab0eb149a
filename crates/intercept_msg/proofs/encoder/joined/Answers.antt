use Rattle.std.proofs.Common.{◌≡◌, ◌++◌, ℕ, List, length, replicate}
use Rattle.std.proofs.lemmas.List.{take_at, drop_at, append-nil}
use borrow.Rule.Slice.PartMut.{put_mid}
use Rattle.intercept_msg.proofs.encoder.joined.Goals as goal

-- zeros after the first part, overwritten by the second
both : (head rest : List ℕ) → length head ≡ 56 → put_mid 56 40 (head ++ replicate 40 0) rest ≡ head ++ rest
both head rest long = rw (take_at head (replicate 40 0) 56 long, drop_at head (replicate 40 0) 56 long, append-nil)

pub returns : goal.returns
returns c =
    rw (c.copy_from_slice.ensures.after, c.copy_from_slice-2.ensures.after) (both c.args.head.now c.args.rest.now c.told-head)
