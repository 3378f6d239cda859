-- No second answer fits a contract that equates the answer with a definition. Assumes nothing.
use Prim.Native.Nat.{ℕ}
use mathlib.Core.Path.{◌≡◌, sym, ◌∙◌}
use mathlib.Core.List.{List}
use contract.Lifetimes.{Lfts}
use denote.Triple.Clauses.{AtExit}
use borrow.Fn.Kinds.{ParamKind, ResultKind, Out, Dens, res_t, ended_of}

-- Of a function's contract, as its own proof has it: two results that meet it on the same input are equal.
abbrev pub OneAnswer : (n : ℕ) (params : List (ParamKind n)) (result : ResultKind n) → Out n params result → Type 0
OneAnswer n params result Post =
    (κs : Lfts n) (input : Dens κs params) (a b : (res_t result κs).Denot) (at_a at_b : AtExit (ended_of n params result) κs)
    → Post κs input a at_a → Post κs input b at_b → a ≡ b

pub one_answer : {A : Type 0} {x r s : A} → r ≡ x → s ≡ x → r ≡ s
one_answer e f = e ∙ sym f

-- The same of what is read off a result that is a reference: its place and what it refers to, and not its ghost name, which no program sees.
abbrev pub OneAnswerAs : (n : ℕ) (params : List (ParamKind n)) (result : ResultKind n) {A : Type 0} → ((κs : Lfts n) → (res_t result κs).Denot → A) → Out n params result → Type 0
OneAnswerAs n params result seen Post =
    (κs : Lfts n) (input : Dens κs params) (a b : (res_t result κs).Denot) (at_a at_b : AtExit (ended_of n params result) κs)
    → Post κs input a at_a → Post κs input b at_b → seen κs a ≡ seen κs b

-- Of a lent table: two exits that meet the contract on the same input hold the same there.
abbrev pub OneExit : (n : ℕ) (params : List (ParamKind n)) (result : ResultKind n) {A : Type 0} → ((κs : Lfts n) → AtExit (ended_of n params result) κs → A) → Out n params result → Type 0
OneExit n params result held Post =
    (κs : Lfts n) (input : Dens κs params) (a b : (res_t result κs).Denot) (at_a at_b : AtExit (ended_of n params result) κs)
    → Post κs input a at_a → Post κs input b at_b → held κs at_a ≡ held κs at_b
