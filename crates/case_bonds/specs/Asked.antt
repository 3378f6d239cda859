-- What is told of a system whose bonds are asked for. Assumes nothing.
use Rattle.std.specs.Prelude.{ℕ, List, Ok, Err}
use Rattle.units.specs.Refusals.{Verdict}
use Rattle.text_put.specs.Puts.{Put}
use Rattle.case_answer_lines.specs.Lines.{refused_text}

-- what is told of a system that was tested: its refusal, and nothing is said here of the bonds of one that passed
abbrev pub Told : Verdict → (old : List ℕ) → (r : ℕ) → (out : List ℕ) → Type 0
Told (Ok passed) old r out = Unit
Told (Err x) old r out = Put old 0 (refused_text x) r out
