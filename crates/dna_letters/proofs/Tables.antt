-- Places of bases in a table, and what holds of each base. Assumes nothing.
use Prim.Native.Nat.{◌<◌}
use native.Mathlib.Omega.{arith}
use Rattle.dna_letters.specs.declared.DnaNucleotideBase.{DnaNucleotideBase}
use Rattle.dna_letters.specs.declared.DnaNucleotideBase.TheVariants.{A, T, G, C}
use Rattle.dna_letters.specs.Bases.{index_of}

-- what holds of each base holds of all
pub each_base : (P : DnaNucleotideBase → Type 0) → P A → P T → P G → P C → (base : DnaNucleotideBase) → P base
each_base P a t g c A = a
each_base P a t g c T = t
each_base P a t g c G = g
each_base P a t g c C = c

pub index_lt : (base : DnaNucleotideBase) → index_of base < 4
index_lt A = omega arith
index_lt T = omega arith
index_lt G = omega arith
index_lt C = omega arith
