-- `plan_bay_names::begins` meets its contract. Assumes nothing.
use borrow.Author.Tests.{lt-ltb, le-ltb}
use Rattle.plan_bay_names.specs.Bays.{begun}
use Rattle.plan_bay_names.proofs.begins.Goals as goal

pub returns-then-byte-lt128 : goal.returns-then-byte-lt128
unfolding begun
returns-then-byte-lt128 c = rw (lt-ltb _ _ c.if-byte-lt128.true)

pub returns-then-byte-lt192 : goal.returns-then-byte-lt192
unfolding begun
returns-then-byte-lt192 c = rw (le-ltb _ _ c.if-byte-lt128.false, lt-ltb _ _ c.if-byte-lt192.true)

pub returns : goal.returns
unfolding begun
returns c = rw (le-ltb _ _ c.if-byte-lt128.false, le-ltb _ _ c.if-byte-lt192.false)
