-- A store that is taken back to a mark has the changes before the mark.
use Rattle.std.proofs.Common.{◌≡◌, ℕ, suc, ◌≤◌, ◌-◌, length, drop, ap, ◌∙◌, length-drop, arith}
use Rattle.tw_metas.specs.State.{Story, states}

pub back_at_mark : (old new : Story) (mark : ℕ) → mark ≤ length old.before → states new ≡ drop (length old.before - mark) (states old) → mark ≤ length new.before
back_at_mark old new mark le e =
    let count : suc (length new.before) ≡ suc (length old.before) - (length old.before - mark) = ap length e ∙ length-drop (length old.before - mark) (states old) in
    omega (arith, le, count)
