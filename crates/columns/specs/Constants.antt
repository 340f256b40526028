-- What a constant column means. Assumes nothing.
use Rattle.std.specs.Prelude.{true, refl}
use Rattle.dtype.specs.Same.{value_of_dtype}
use Rattle.columns.specs.declared.constant.Constant.{Constant}
use Rattle.columns.specs.Columns.{Meaning, Proper}

abbrev pub constant_meaning : Constant → Meaning
constant_meaning c = record { dtype = c.scalar.dtype; len = c.len; entry = λ i. c.scalar.value; constant = true }

pub constant_proper : (c : Constant) → Proper (constant_meaning c)
constant_proper c = record {
  typed = λ i low. value_of_dtype c.scalar.dtype c.scalar.value c.scalar.ok;
  same = λ h i low. refl;
}
