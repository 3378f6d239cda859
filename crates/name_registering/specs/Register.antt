-- Registering: what is refused, what is answered, and what the lent tables hold afterwards. Assumes nothing.
use Rattle.std.specs.Prelude.{ℕ, ◌+◌, List, length, Result}
use Rattle.units.specs.declared.refusal.Refusal.{Refusal}
use Rattle.units.specs.Refusals.{Verdict, ◌▷◌, if_passes, answer}
use Rattle.name_glues.specs.Names.{GlueNames}
use Rattle.name_glue_tables.specs.Tables.{strand_table, scaffold_table}
use Rattle.name_glues.specs.Starred.{stars_verdict}
use Rattle.name_new_bases.specs.Bases.{firsts_to, bases_table, count_verdict}
use Rattle.name_register_input.specs.Input.{Request, first_bay, bay_count, input_verdict}

-- the entries that bring a new base, of all strands and bays
abbrev pub firsts_of : GlueNames → (strands bays : ℕ) → List ℕ
firsts_of n strands bays = firsts_to n (first_bay strands + bays)

-- the stars are tested after all registering
abbrev pub registered_verdict : GlueNames → (strands bays : ℕ) → Verdict
registered_verdict n strands bays = count_verdict (firsts_of n strands bays) ▷ stars_verdict n (first_bay strands) bays

-- 1, 17, 15, 16
abbrev pub register_verdict : Request → Verdict
register_verdict q = input_verdict q ▷ registered_verdict q.names q.strands (bay_count q)

-- the count of bases
abbrev pub register_answer : Request → Result ℕ Refusal
register_answer q = answer (register_verdict q) (length (firsts_of q.names q.strands (bay_count q)))

-- the tables of what is registered, each glue by the list of bases as it is answered
abbrev pub registered_bases : GlueNames → (strands bays : ℕ) → List ℕ
registered_bases n strands bays = bases_table n (firsts_of n strands bays)

abbrev pub registered_strands : GlueNames → (strands bays : ℕ) → List ℕ
registered_strands n strands bays = strand_table n (registered_bases n strands bays) (length (firsts_of n strands bays)) strands

abbrev pub registered_scaffold : GlueNames → (strands bays : ℕ) → List ℕ
registered_scaffold n strands bays = scaffold_table n (registered_bases n strands bays) (length (firsts_of n strands bays)) (first_bay strands) bays

-- a lent table afterwards, from what it held: a refusal writes nothing
abbrev pub glues_after : Request → List ℕ → List ℕ
glues_after q glues = if_passes (register_verdict q) (registered_strands q.names q.strands (bay_count q)) glues

abbrev pub scaffold_after : Request → List ℕ → List ℕ
scaffold_after q scaffold = if_passes (register_verdict q) (registered_scaffold q.names q.strands (bay_count q)) scaffold

abbrev pub bases_after : Request → List ℕ → List ℕ
bases_after q bases = if_passes (register_verdict q) (registered_bases q.names q.strands (bay_count q)) bases
