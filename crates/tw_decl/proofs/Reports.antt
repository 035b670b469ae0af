-- What is reported of an entry.
use Rattle.std.proofs.Common.{◌≡◌, ℕ, List, [], ◌∷◌, ◌++◌, ap, ◌∙◌}
use Rattle.lf.specs.Entries.{Entry}
use Rattle.tw_print.specs.Names.{Scene}
use Rattle.tw_print.specs.ShowEnv.{scene_of}
use Rattle.tw_print.specs.declared.show.ShowEnv.{ShowEnv}
use Rattle.tw_print.specs.Shown.{declaration_line, scene_after}
use Rattle.tw_decl.specs.View.{View}
use Rattle.tw_decl.specs.View.{scene_of as scene_of_view}
use Rattle.tw_decl.specs.Declaration.{entry_line}

-- the line of an entry over the parts of a session, with a line feed
pub report_line : (v : View) (e : Entry) (env : ShowEnv) (line text : List ℕ) → scene_of env ≡ scene_of_view v → line ≡ declaration_line (scene_after (scene_of env) e) e → text ≡ line ++ 10 ∷ [] → text ≡ entry_line v e
unfolding entry_line
report_line v e env line text same l t = t ∙ ap (λ (x : List ℕ). x ++ 10 ∷ []) (l ∙ ap (λ (s : Scene). declaration_line (scene_after s e) e) same)
