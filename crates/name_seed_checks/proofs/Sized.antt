-- What passed tests of sizes and texts tell of names and seeds. Assumes nothing.
use Prim.Native.Nat.{ℕ, ◌+◌, ◌*◌, ◌%◌, ◌≤◌, ◌<◌}
use mathlib.Core.Path.{◌≡◌}
use mathlib.Core.Bool.{true, ◌&&◌}
use native.Mathlib.Omega.{arith}
use lib.Dec.{leb, eqb}
use lib.ListN.{length}
use borrow.Author.Tests.{eqb-true}
use Rattle.units.specs.Limits.{most_side, most_name_bytes, from_one_to}
use Rattle.units.proofs.Tests.{both}
use Rattle.text_entries.proofs.Tested.{at_most}
use Rattle.name_strands.specs.Names.{StrandNames, names_sized, names_read, StrandsReadable}
use Rattle.name_strands.proofs.Passed.{sized, first_there, readable}
use Rattle.name_seed_checks.specs.Sizes.{SeedList, seed_count, seeds_sized, sizes_right, texts_right, SeedsReadable}

-- the counts of seeds that passed
record Counts (s : SeedList) (table : ℕ) : Type 0 where
  pub pairs : length s.places ≡ 2 * seed_count s
  pub one_more : length s.offsets ≡ seed_count s + 1
  pub triples : table ≡ 3 * seed_count s

counts : (s : SeedList) (table : ℕ) → seeds_sized s table ≡ true → Counts s table
counts s table e =
    let a = both (eqb (length s.places % 2) 0) _ e in
    let b = both (leb (length s.text) most_name_bytes) _ a.1 in
    let c = both (eqb (length s.offsets) (seed_count s + 1)) (eqb table (3 * seed_count s)) b.1 in
    let even = eqb-true (length s.places % 2) 0 a.0 in
    record {
      pairs = omega arith;
      one_more = eqb-true (length s.offsets) (seed_count s + 1) c.0;
      triples = eqb-true table (3 * seed_count s) c.1;
    }

module _ (rows cols strands : ℕ) (n : StrandNames) (s : SeedList) (table : ℕ) where
  -- every size and count is right
  pub record SizesHold : Type 0 where
    pub few_rows : rows ≤ most_side
    pub few_cols : cols ≤ most_side
    pub names : names_sized strands n ≡ true
    pub seeds : seeds_sized s table ≡ true

  pub sizes_hold : sizes_right rows cols strands n s table ≡ true → SizesHold
  sizes_hold e =
      let a = both (from_one_to most_side rows && from_one_to most_side cols) _ e in
      let grid = both (from_one_to most_side rows) (from_one_to most_side cols) a.0 in
      let b = both (names_sized strands n) _ a.1 in
      record { few_rows = at_most most_side rows grid.0; few_cols = at_most most_side cols grid.1; names = b.0; seeds = b.1 }

  -- so that entry 0 of the names can be looked at
  pub names_there : sizes_right rows cols strands n s table ≡ true → (1 < length n.offsets) × (0 < length n.present)
  names_there e = first_there strands n (sized strands n (sizes_hold e).names)

pub table_size : (s : SeedList) (table : ℕ) → seeds_sized s table ≡ true → table ≡ 3 * seed_count s
table_size s table e = (counts s table e).triples

-- names and seeds of right sizes that can be read
pub both_readable : (rows cols strands : ℕ) (n : StrandNames) (s : SeedList) (table : ℕ) → sizes_right rows cols strands n s table ≡ true → texts_right n s ≡ true
    → StrandsReadable n × SeedsReadable s
both_readable rows cols strands n s table e f =
    let h = sizes_hold rows cols strands n s table e in
    let r = both (names_read n) _ f in
    let c = counts s table h.seeds in (
      readable n (sized strands n h.names) r.0,
      record { pairs = c.pairs; counts = c.one_more; offsets_fit_holds = r.1 },
    )
