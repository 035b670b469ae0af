use Rattle.std.proofs.Common.{rules, ap, ap₂, refl, codes, true, map, ◌≡◌, ◌∙◌, subst}
use Rattle.std.proofs.lemmas.Result.{IfOk-weaker}
use Rattle.clap.specs.Words.{App, app_of, is_simple, new_app, rule_of, with_rule, matches_of, FailsBy}
use Rattle.clap.specs.Simple.{on_top}
use Rattle.clap.specs.Faults.{fault_of, is_simple_and_free}
use Rattle.std.specs.Prelude.{string_bytes}
use Rattle.tw_words.specs.Command.{twelf, files_rule, steps_rule}
use Rattle.tw_words.proofs.read.matches_in.Goals as goal

-- clap states the matches and the faults of such a command exactly
simple_is : is_simple twelf ≡ true
simple_is = refl

free_is : is_simple_and_free twelf ≡ true
free_is = refl

pub returns : goal.returns
returns c =
    let steps_is : rule_of c.action-steps.result ≡ steps_rule = search rules in
    let files_is : rule_of c.action-files.result ≡ files_rule = search rules in
    let base_is : app_of c.disable_version_flag.result ≡ on_top (λ s. record s { no_binary_name = true; disable_help_flag = true; disable_version_flag = true }) (new_app (codes "twelf")) = search rules in
    let app_is : app_of c.in_ok-command.command ≡ twelf = c.in_ok-command.ensures.shape (search rules)
    ∙ ap₂ with_rule (c.in_ok-arg.ensures.shape (search rules) ∙ ap₂ with_rule base_is steps_is) files_is in
    let parse = c.try_get_matches_from in
    record {
      rows = IfOk-weaker parse.result _ _ (λ m h. (h (ap is_simple app_is ∙ simple_is)).0 ∙ ap (λ (a : App). matches_of a (map (λ w. string_bytes w) c.args.words.now)) app_is) parse.ensures.matches;
      kinds = subst (λ (a : App). FailsBy (fault_of a (map (λ w. string_bytes w) c.args.words.now)) parse.result) app_is (parse.ensures.kinds (ap is_simple_and_free app_is ∙ free_is));
    }
