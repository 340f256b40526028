-- Products that stay within 64 bits, and those that leave them. Assumes nothing.
use Rattle.std.proofs.Common.{◌≡◌, ℕ, ◌*◌, ◌/◌, ◌^◌, ◌<◌, ◌≤◌, Some, None, ap, ◌∙◌, div-lt_iff_lt-mul, mul-zero, le-div_iff_mul-le, arith}
use Rattle.std.proofs.lemmas.Bool.{le-ltb, lt-ltb}
use Rattle.sums.specs.Sums.{unsigned64, checked}

pub product_over : (x n : ℕ) → 0 < n → 18446744073709551615 / n < x → 2 ^ 64 ≤ x * n
product_over x n p h = let o : 18446744073709551615 < x * n = (div-lt_iff_lt-mul p).0 h in omega arith

pub product_within : (x n : ℕ) → x ≤ 18446744073709551615 / n → 0 < n → x * n < 2 ^ 64
product_within x n h p = let o : x * n ≤ 18446744073709551615 = (le-div_iff_mul-le p).0 h in omega arith

pub product_none : (x n : ℕ) → n ≡ 0 → x * n < 2 ^ 64
product_none x n e = let z : x * n ≡ 0 = ap (λ k. x * k) e ∙ mul-zero x in omega arith

pub checked_over : (m : ℕ) → 2 ^ 64 ≤ m → None ≡ checked unsigned64 m
checked_over m h = rw (le-ltb m (2 ^ 64) h)

pub checked_within : (m : ℕ) → m < 2 ^ 64 → Some m ≡ checked unsigned64 m
checked_within m h = rw (lt-ltb m (2 ^ 64) h)
