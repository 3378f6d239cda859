-- `lengths::digit_count` meets its contract: `io` makes as many digits as the number's text has. Assumes nothing.
use Rattle.sheet_text.proofs.Sums.{count_of, count_small}
use Rattle.sheet_text.proofs.lengths.digit_count.Goals as goal

pub returns : goal.returns
returns c = let made = c.decimal.ensures.len in
    record {
      value = count_of c.args.n c.decimal.result c.ranges.n.fits made;
      upper_bound = count_small c.args.n c.decimal.result c.ranges.n.fits made;
    }
