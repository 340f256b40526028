-- Stretches: the longest runs of valid entries. Assumes nothing.
use Rattle.std.specs.Prelude.{◌≡◌, ℕ, ◌-◌, ◌<◌, ◌≤◌, Bool, true, false, cond, not, ◌&&◌, Option, MatchOption, ◌==◌}
use Rattle.columns.specs.declared.bitmap.Stretch.{Stretch}

-- entry i is valid, and the one before it is not
abbrev pub begins : (ℕ → Bool) → ℕ → Bool
begins valid i = valid i && cond (i == 0) true (not (valid (i - 1)))

-- no stretch starts from a up to b
abbrev pub NoneFrom : (ℕ → Bool) → ℕ → ℕ → Type 0
NoneFrom valid a b = (k : ℕ) → a ≤ k → k < b → begins valid k ≡ false

-- Of n entries, those from s up to e are valid, and the run cannot be extended at its end.
pub record IsRun (valid : ℕ → Bool) (n s e : ℕ) : Type 0 where
  pub some : s < e
  pub within : e ≤ n
  pub filled : (k : ℕ) → s ≤ k → k < e → valid k ≡ true
  pub ended : e < n → valid e ≡ false

-- the first stretch of n entries that starts at `from` or later
pub record Found (valid : ℕ → Bool) (n from : ℕ) (s : Stretch) : Type 0 where
  pub late : from ≤ s.start
  pub first : NoneFrom valid from s.start
  pub starts : begins valid s.start ≡ true
  pub run : IsRun valid n s.start s.end

abbrev pub NextStretch : (ℕ → Bool) → ℕ → ℕ → Option Stretch → Type 0
NextStretch valid n from r = MatchOption r (NoneFrom valid from n) (λ s. Found valid n from s)

-- a step of an iterator over the stretches: the next one, and then what follows it; or none, and it stays where it is
abbrev pub StretchStep : (ℕ → Bool) → ℕ → ℕ → ℕ → Option Stretch → Type 0
StretchStep valid n from to r = MatchOption r (NoneFrom valid from n × (to ≡ from)) (λ s. Found valid n from s × (to ≡ s.end))
