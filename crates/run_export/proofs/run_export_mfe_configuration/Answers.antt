-- `run_export::run_export_mfe_configuration` meets its contract: that of the call, its answer turned into numbers. Assumes nothing.
use mathlib.Core.Path.{◌∙◌, ap}
use Rattle.run_export.specs.Numbers.{numbers}
use Rattle.run_export.specs.declared.RunNumbers.{RunNumbers}
use Rattle.run_export.proofs.Reading.{number_read}
use Rattle.run_export.proofs.run_export_mfe_configuration.Goals as goal

pub returns : goal.returns
returns c = let m = c.mfe_configuration.ensures in
    rw (← c.constraints-constraints.ensures)
    (record {
      number = ap (λ (r : RunNumbers). r.number) (c.numbers.ensures ∙ ap numbers m.answer) ∙ number_read _ _;
      answer = c.numbers.ensures ∙ ap numbers m.answer;
      layout = m.layout;
      energies = m.energies;
      leaving = m.leaving;
    })
