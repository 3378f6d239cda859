-- `text_entries::Entries::entry` meets its contract: offsets that fit bound the part. Assumes nothing.
use lib.ListN.{length}
use Rattle.text_entries.proofs.Bounds.{entry_starts, offset_within}
use Rattle.text_entries.proofs.Entries.entry.Goals as goal

pub slice_bounds-result-count : goal.slice_bounds-result-count
slice_bounds-result-count c = entry_starts (length c.args.self.now.text.now) c.args.self.now.offsets.now c.args.i c.requires.fit c.requires.i_in_bounds

pub slice_bounds-result-start : goal.slice_bounds-result-start
slice_bounds-result-start c = (entry_starts (length c.args.self.now.text.now) c.args.self.now.offsets.now c.args.i c.requires.fit c.requires.i_in_bounds)

pub slice_bounds-result-end : goal.slice_bounds-result-end
slice_bounds-result-end c = offset_within (length c.args.self.now.text.now) c.args.self.now.offsets.now _ c.requires.fit c.requires.i_in_bounds
