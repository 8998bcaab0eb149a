-- The interrupt vectors of one level of a processor: which are requested, which are in service, and which is delivered next (Intel SDM, Interrupt Acceptance for Fixed Interrupts, and Task and Processor Priorities).
use Rattle.std.specs.Prelude.{ℕ, zero, suc, ◌-◌, ◌*◌, ◌/◌, ◌%◌, ◌^◌, ◌==◌, ◌&&◌, Bool, if◌then◌else◌, nat_lt, Option, Some, None, List, [], ◌∷◌, bit_and, bit_or, slice_index, slice_set}

-- sets of vectors, each of four words of 64 bits: bit b of word w is vector 64 w + b
pub record Vectors : Type 0 where
  pub requested : List ℕ
  pub served : List ℕ

abbrev pub no_vector : List ℕ
no_vector = 0 ∷ 0 ∷ 0 ∷ 0 ∷ []

abbrev pub no_vectors : Vectors
no_vectors = record { requested = no_vector; served = no_vector }

-- the word of a vector, and its bit there
abbrev pub part_of : ℕ → ℕ
part_of vector = vector / 64

abbrev pub bit_of : ℕ → ℕ
bit_of vector = 2 ^ (vector % 64)

-- a set has a vector
abbrev pub has : List ℕ → ℕ → Bool
has set vector = slice_index set (part_of vector) / bit_of vector % 2 == 1

abbrev pub with_vector : List ℕ → ℕ → List ℕ
with_vector set vector = slice_set set (part_of vector) (bit_or (slice_index set (part_of vector)) (bit_of vector))

abbrev pub without_vector : List ℕ → ℕ → List ℕ
without_vector set vector = slice_set set (part_of vector) (bit_and (slice_index set (part_of vector)) (2 ^ 64 - 1 - bit_of vector))

-- the highest vector below this one that a set has
abbrev pub highest_below : List ℕ → ℕ → Option ℕ
highest_below set zero = None
highest_below set (suc vector) = if has set vector then Some vector else highest_below set vector

-- the highest vector that a set has
unfoldable pub highest : List ℕ → Option ℕ
highest set = highest_below set 256

-- a vector's priority class: its bits 7 to 4
abbrev pub class_of : ℕ → ℕ
class_of vector = vector / 16

-- the class of what is in service, and 0, which no vector has, where nothing is
abbrev pub class_in_service : Option ℕ → ℕ
class_in_service None = 0
class_in_service (Some vector) = class_of vector

-- a vector, if its class exceeds both of these
abbrev pub if_above : ℕ → ℕ → Option ℕ → Option ℕ
if_above cr8 served None = None
if_above cr8 served (Some vector) = if nat_lt cr8 (class_of vector) && nat_lt served (class_of vector) then Some vector else None

-- the vector that is delivered next, if one is: the highest one requested, where its class exceeds both Cr8 and the class of the highest one in service
unfoldable pub deliverable : Vectors → ℕ → Option ℕ
deliverable vectors cr8 = if_above cr8 (class_in_service (highest vectors.served)) (highest vectors.requested)

-- this vector, if there is one, goes into service
abbrev pub acknowledged : Vectors → Option ℕ → Vectors
acknowledged vectors None = vectors
acknowledged vectors (Some vector) = record { requested = without_vector vectors.requested vector; served = with_vector vectors.served vector }

-- a set without this vector, if there is one
abbrev pub without_this : List ℕ → Option ℕ → List ℕ
without_this set None = set
without_this set (Some vector) = without_vector set vector

-- the highest vector in service is served
abbrev pub ended : Vectors → Vectors
ended vectors = record vectors { served = without_this vectors.served (highest vectors.served) }

-- a vector is requested
abbrev pub requested_too : Vectors → ℕ → Vectors
requested_too vectors vector = record vectors { requested = with_vector vectors.requested vector }

-- the vectors of both sets
abbrev pub joined : List ℕ → List ℕ → List ℕ
joined [] others = []
joined (word ∷ words) [] = word ∷ words
joined (word ∷ words) (other ∷ others) = bit_or word other ∷ joined words others

-- a set without the vectors below 0x10, which can't be requested
abbrev pub legal : List ℕ → List ℕ
legal [] = []
legal (word ∷ words) = word / 2 ^ 16 * 2 ^ 16 ∷ words

-- all vectors of a set are requested that can be
abbrev pub all_requested : Vectors → List ℕ → Vectors
all_requested vectors set = record vectors { requested = joined vectors.requested (legal set) }
