-- Refusals as the rules print them, a number and its values, and the order in which tests refuse. Assumes nothing.
use Rattle.std.specs.Prelude.{ℕ, Bool, true, false, List, [], ◌∷◌, Result, Ok, Err}
use Rattle.units.specs.declared.refusal.Refusal.{Refusal}
use Rattle.units.specs.declared.refusal.Refusal.TheVariants.{
  Size,
  Glue,
  Energy,
  Seed,
  Shape,
  Strand,
  Tile,
  NoLegalStrand,
  TooManyRows,
  NoRoom,
  BadSum,
  Letter,
  TooFewLetters,
  SequenceLength,
  LoopLength,
  TooManyBases,
  Starred,
  Unreadable,
  UnknownSeed,
  Field,
}

-- the rules' number of a refusal
abbrev pub number_of : Refusal → ℕ
number_of Size = 1
number_of (Glue place) = 2
number_of (Energy place) = 3
number_of (Seed seed) = 4
number_of Shape = 5
number_of (Strand bay) = 6
number_of Tile = 6
number_of (NoLegalStrand bay) = 7
number_of TooManyRows = 8
number_of (NoRoom need) = 9
number_of BadSum = 10
number_of (Letter sequence place) = 11
number_of TooFewLetters = 12
number_of SequenceLength = 13
number_of (LoopLength loop) = 14
number_of (TooManyBases entry) = 15
number_of (Starred bay) = 16
number_of Unreadable = 17
number_of (UnknownSeed seed) = 18
number_of (Field line field) = 19

-- the values beside its number; 19 is a sheet's (docs/requests/Q-1.md)
abbrev pub values_of : Refusal → List ℕ
values_of Size = []
values_of (Glue place) = place ∷ []
values_of (Energy place) = place ∷ []
values_of (Seed seed) = seed ∷ []
values_of Shape = []
values_of (Strand bay) = bay ∷ []
values_of Tile = []
values_of (NoLegalStrand bay) = bay ∷ []
values_of TooManyRows = []
values_of (NoRoom need) = need ∷ []
values_of BadSum = []
values_of (Letter sequence place) = sequence ∷ place ∷ []
values_of TooFewLetters = []
values_of SequenceLength = []
values_of (LoopLength loop) = loop ∷ []
values_of (TooManyBases entry) = entry ∷ []
values_of (Starred bay) = bay ∷ []
values_of Unreadable = []
values_of (UnknownSeed seed) = seed ∷ []
values_of (Field line field) = line ∷ field ∷ []

-- What a test of the input comes to: it passes, or it refuses.
abbrev pub Verdict : Type 0
Verdict = Result Unit Refusal

abbrev pub passes : Verdict
passes = Ok tt

abbrev pub refuses : Refusal → Verdict
refuses r = Err r

-- refused so exactly where the fault is there
abbrev pub refuse_if : Bool → Refusal → Verdict
refuse_if true r = refuses r
refuse_if false r = passes

-- one test after the other: the first that refuses counts
infixr 5 ◌▷◌
abbrev pub ◌▷◌ : Verdict → Verdict → Verdict
Ok passed ▷ w = w
Err r ▷ w = Err r

-- the number of a verdict, 0 where it passes, and its values
abbrev pub number_in : Verdict → ℕ
number_in (Ok passed) = 0
number_in (Err r) = number_of r

abbrev pub values_in : Verdict → List ℕ
values_in (Ok passed) = []
values_in (Err r) = values_of r

-- the value where the tests pass, else their refusal: the answer of a call
abbrev pub answer : {A : Type 0} → Verdict → A → Result A Refusal
answer (Ok passed) value = Ok value
answer (Err r) value = Err r

-- the new value where the tests pass, else what was there: a refusal writes nothing
abbrev pub if_passes : {A : Type 0} → Verdict → (new old : A) → A
if_passes (Ok passed) new old = new
if_passes (Err r) new old = old
