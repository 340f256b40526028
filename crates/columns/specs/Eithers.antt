-- A column of one of two kinds means what its side means. Assumes nothing.
use Rattle.either.specs.declared.Either.{Either}
use Rattle.either.specs.declared.Either.TheVariants.{Left, Right}
use Rattle.either.specs.Either.{either}
use Rattle.columns.specs.Columns.{Meaning, Proper}

pub either_proper : {L R : Type 0} (f : L → Meaning) (g : R → Meaning) → ((x : L) → Proper (f x)) → ((y : R) → Proper (g y)) → (e : Either L R) → Proper (either f g e)
either_proper f g p q (Left x) = p x
either_proper f g p q (Right y) = q y
