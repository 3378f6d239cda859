-- What passed tests tell of a system: its sizes and the lengths of its slices. Assumes nothing.
use Prim.Native.Nat.{ℕ, ◌*◌, ◌%◌, ◌≤◌}
use mathlib.Core.Path.{◌≡◌}
use mathlib.Core.Bool.{true, not, ◌&&◌}
use lib.Dec.{leb, eqb}
use lib.ListN.{length}
use borrow.Author.Tests.{leb-true, eqb-true, not-false}
use Rattle.units.specs.Kelvin.{in_kelvin_range}
use Rattle.units.specs.Limits.{most_side, most_strands, most_glues, from_one_to}
use Rattle.units.specs.Refusals.{passes}
use Rattle.units.proofs.Tests.{and_left, and_right}
use Rattle.units.proofs.Verdicts.{no_fault}
use Rattle.bay_system.specs.declared.sizes.Sizes.{Sizes}
use Rattle.bay_system.specs.System.{System, sizes_fit, lengths_fit, sizes_verdict}

-- sizes in range
pub record InRange (z : Sizes) : Type 0 where
  pub some_rows : 1 ≤ z.rows
  pub rows : z.rows ≤ most_side
  pub some_cols : 1 ≤ z.cols
  pub cols : z.cols ≤ most_side
  pub some_strands : 1 ≤ z.strands
  pub strands : z.strands ≤ most_strands
  pub some_glues : 1 ≤ z.glues
  pub glues : z.glues ≤ most_glues

lowest : (n most : ℕ) → from_one_to most n ≡ true → 1 ≤ n
lowest n most e = leb-true 1 n (and_left (leb 1 n) (leb n most) e)

highest : (n most : ℕ) → from_one_to most n ≡ true → n ≤ most
highest n most e = leb-true n most (and_right (leb 1 n) (leb n most) e)

pub in_range : (z : Sizes) → sizes_fit z ≡ true → InRange z
in_range z e =
    let r = from_one_to most_side z.rows in
    let c = from_one_to most_side z.cols in
    let s = from_one_to most_strands z.strands in
    let g = from_one_to most_glues z.glues in
    let k = in_kelvin_range z.kelvin in
    let e1 = and_right r (c && (s && (g && k))) e in
    let e2 = and_right c (s && (g && k)) e1 in
    let e3 = and_right s (g && k) e2 in
    let er = and_left r (c && (s && (g && k))) e in
    let ec = and_left c (s && (g && k)) e1 in
    let es = and_left s (g && k) e2 in
    let eg = and_left g k e3 in
    record {
      some_rows = lowest z.rows most_side er;
      rows = highest z.rows most_side er;
      some_cols = lowest z.cols most_side ec;
      cols = highest z.cols most_side ec;
      some_strands = lowest z.strands most_strands es;
      strands = highest z.strands most_strands es;
      some_glues = lowest z.glues most_glues eg;
      glues = highest z.glues most_glues eg;
    }

-- slices of the right lengths
pub record Shaped (s : System) : Type 0 where
  pub sizes : InRange s.sizes
  pub strand_glues : length s.strand_glues ≡ s.sizes.strands * 5
  pub scaffold : length s.scaffold ≡ s.sizes.rows * s.sizes.cols
  pub delta_g : length s.delta_g ≡ s.sizes.glues * s.sizes.glues
  pub entropy : length s.entropy ≡ s.sizes.glues * s.sizes.glues
  pub logs : length s.logs ≡ s.sizes.strands
  pub seeds : length s.seeds % 3 ≡ 0

pub shaped : (s : System) → sizes_verdict s ≡ passes → Shaped s
shaped s e =
    let both = not-false (sizes_fit s.sizes && lengths_fit s) (no_fault (not (sizes_fit s.sizes && lengths_fit s)) _ e) in
    let f = and_right (sizes_fit s.sizes) (lengths_fit s) both in
    let t1 = eqb (length s.strand_glues) (s.sizes.strands * 5) in
    let t2 = eqb (length s.scaffold) (s.sizes.rows * s.sizes.cols) in
    let t3 = eqb (length s.delta_g) (s.sizes.glues * s.sizes.glues) in
    let t4 = eqb (length s.entropy) (s.sizes.glues * s.sizes.glues) in
    let t5 = eqb (length s.logs) s.sizes.strands in
    let t6 = eqb (length s.seeds % 3) 0 in
    let f1 = and_right t1 (t2 && (t3 && (t4 && (t5 && t6)))) f in
    let f2 = and_right t2 (t3 && (t4 && (t5 && t6))) f1 in
    let f3 = and_right t3 (t4 && (t5 && t6)) f2 in
    let f4 = and_right t4 (t5 && t6) f3 in
    record {
      sizes = in_range s.sizes (and_left (sizes_fit s.sizes) (lengths_fit s) both);
      strand_glues = eqb-true (length s.strand_glues) (s.sizes.strands * 5) (and_left t1 (t2 && (t3 && (t4 && (t5 && t6)))) f);
      scaffold = eqb-true (length s.scaffold) (s.sizes.rows * s.sizes.cols) (and_left t2 (t3 && (t4 && (t5 && t6))) f1);
      delta_g = eqb-true (length s.delta_g) (s.sizes.glues * s.sizes.glues) (and_left t3 (t4 && (t5 && t6)) f2);
      entropy = eqb-true (length s.entropy) (s.sizes.glues * s.sizes.glues) (and_left t4 (t5 && t6) f3);
      logs = eqb-true (length s.logs) s.sizes.strands (and_left t5 t6 f4);
      seeds = eqb-true (length s.seeds % 3) 0 (and_right t5 t6 f4);
    }
