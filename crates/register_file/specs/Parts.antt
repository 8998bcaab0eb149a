-- The 128 bits of a segment register and of a table register, from their parts.
use Rattle.std.specs.Prelude.{ℕ, ◌+◌, ◌*◌, ◌^◌, ◌<◌}
use Rattle.register_file.specs.declared.parts.Segment.{Segment}
use Rattle.register_file.specs.declared.parts.Table.{Table}

-- base, limit, selector and attributes, from the lowest bit on
abbrev pub segment_bits : Segment → ℕ
segment_bits segment = segment.base + 2 ^ 64 * segment.limit + 2 ^ 96 * segment.selector + 2 ^ 112 * segment.attributes

-- each part has no more bits than it may
pub record IsSegment (segment : Segment) : Type 0 where
  pub base : segment.base < 2 ^ 64
  pub limit : segment.limit < 2 ^ 32
  pub selector : segment.selector < 2 ^ 16
  pub attributes : segment.attributes < 2 ^ 16

pub record IsTable (table : Table) : Type 0 where
  pub limit : table.limit < 2 ^ 16
  pub base : table.base < 2 ^ 64

-- 48 bits of zero, limit and base, from the lowest bit on
abbrev pub table_bits : Table → ℕ
table_bits table = 2 ^ 48 * table.limit + 2 ^ 64 * table.base
