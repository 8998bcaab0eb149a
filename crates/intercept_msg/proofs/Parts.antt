-- A number in a part of a slice is a number in the whole.
use Rattle.std.proofs.Common.{◌≡◌, ℕ, ◌≤◌, List, take, drop, arith}
use Rattle.byteorder.specs.Endian.{little_number}
use Rattle.byteorder.specs.Numbers.{little_from-take}
use Rattle.intercept_msg.specs.Candidate.{number_at}

pub part : (size place rest : ℕ) (bytes : List ℕ) → size ≤ rest → little_number size (take rest (drop place bytes)) ≡ number_at size place bytes
part size place rest bytes fits = little_from-take 0 size rest (drop place bytes) (omega arith)
