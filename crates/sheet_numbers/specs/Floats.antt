-- Columns of decimals and of logarithms: what a content is read as. Assumes nothing.
use Rattle.std.specs.Prelude.{ℕ, Bool, cond, List, eqb, Float, length, Option, Some, is_some, unwrap_or}
use Rattle.units.specs.Decimals.{plus}
use Rattle.text_decimals.specs.Decimals.{decimal_of, logarithm_of}
use Rattle.sheet_numbers.specs.declared.float_column.Kind.{Kind}
use Rattle.sheet_numbers.specs.declared.float_column.Kind.TheVariants.{Decimals, DecimalsOrBlanks, Logarithms}

-- what a content of a column is read as: a blank is 0.0 where blanks may stand
unfoldable pub read_as : Kind → List ℕ → Option Float
read_as Decimals t = decimal_of t
read_as DecimalsOrBlanks t = cond (eqb (length t) 0) (Some (plus 0 1)) (decimal_of t)
read_as Logarithms t = logarithm_of t

abbrev pub is_read : Kind → List ℕ → Bool
is_read kind t = is_some (read_as kind t)

-- its value, 0.0 where it could not be read
abbrev pub value_as : Kind → List ℕ → Float
value_as kind t = unwrap_or (read_as kind t) (plus 0 1)
