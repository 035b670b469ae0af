use Rattle.std.proofs.Common.{◌≡◌, ◌-◌, ℕ, subst, rules}
use Rattle.std.specs.Prelude.{cond, true}
use Rattle.lf.specs.Entries.{signature_of}
use Rattle.lf.specs.Variables.{same_number}
use Rattle.tw_clause.specs.View.{block_of}
use Rattle.tw_world.specs.Sequences.{says}
use Rattle.tw_world.proofs.Tables.{adds, adds_open, still_said}
use Rattle.tw_world.proofs.table.add.Goals as goal

pub returns-then-is_one-clause-keeps : goal.returns-then-is_one-clause-keeps
returns-then-is_one-clause-keeps c = still_said c.args.table.now.items c.mark.new.table.items (c.args.left - c.len.result) c.mark.ensures.marked

pub returns-then-is_one-clause-added : goal.returns-then-is_one-clause-added
returns-then-is_one-clause-added c =
    let B = block_of c.args.block.now in
    let q = subst (λ n. (k : ℕ) → says c.mark.new.table.items k ≡ cond (same_number k (c.args.left - n)) true (says c.args.table.now.items k)) c.len.ensures c.mark.ensures.marked in
    adds (signature_of c.args.sig.now) B c.args.whole.now c.args.local.now c.args.left c.args.table.now.items c.args.deep.now.items c.mark.new.table.items c.requires.within c.mark.ensures.size q (c.in-Ok.ensures.stands.0 c.if-is_one.true)

pub returns-in-Err-TooDeep-clause-added : goal.returns-in-Err-TooDeep-clause-added
returns-in-Err-TooDeep-clause-added c =
    let B = block_of c.args.block.now in
    let m = c.mark-in-Err-TooDeep in
    let q = subst (λ n. (k : ℕ) → says m.new.table.items k ≡ cond (same_number k (c.args.left - n)) true (says c.args.deep.now.items k)) c.len-in-Err-TooDeep.ensures m.ensures.marked in
    adds_open (signature_of c.args.sig.now) B c.args.whole.now c.args.local.now c.args.left c.args.table.now.items c.args.deep.now.items m.new.table.items c.requires.within m.ensures.size q (c.in-Err-TooDeep.ensures.too_deep (search rules))
