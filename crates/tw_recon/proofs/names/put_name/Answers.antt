use Rattle.std.proofs.Common.{[], ◌∷◌, ◌++◌, Some, ap, ◌∙◌, arith, sym}
use Rattle.tw_recon.proofs.Naming.{name_past, name_put}
use Rattle.tw_recon.proofs.names.put_name.Goals as goal

pub returns-then-at-len : goal.returns-then-at-len
returns-then-at-len c = name_put c.args.meta.0 c.args.name c.args.names.now.items (omega arith) c.requires

pub returns-in_ok-push : goal.returns-in_ok-push
returns-in_ok-push c =
    c.in_ok-push.ensures.items ∙ ap (λ l. l ++ Some c.args.name ∷ []) c.in_ok-reach.ensures
    ∙ sym (name_past c.args.meta.0 c.args.name c.args.names.now.items (omega arith))
