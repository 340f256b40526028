-- Validity bitmaps. Assumes nothing.
use Rattle.std.specs.Prelude.{ℕ, ◌+◌, ◌/◌, ◌%◌, ◌^◌, Bool, true, false, List, ◌==◌, slice_index}

-- bit i mod 8, the lowest first, of byte i div 8 is 1
abbrev pub bit_at : List ℕ → ℕ → Bool
bit_at bytes i = slice_index bytes (i / 8) / 2 ^ (i % 8) % 2 == 1

-- A nullable column has just enough bytes for a bit each entry, and another has none.
abbrev pub bitmap_len : Bool → ℕ → ℕ
bitmap_len true n = (n + 7) / 8
bitmap_len false n = 0

-- without the nullable flag each entry is valid
abbrev pub valid_by : Bool → List ℕ → ℕ → Bool
valid_by true bits i = bit_at bits i
valid_by false bits i = true
