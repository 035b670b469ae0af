use Rattle.std.proofs.Common.{◌≡◌, ◌∙◌, [], None, Some, map, ap, codes, string_bytes, unwrap_or}
use Rattle.std.proofs.lemmas.Result.{IfOk-weaker}
use Rattle.clap.specs.Words.{all_of, found_of, rows_of}
use Rattle.clap.proofs.WalkLemmas.{raw_values-rows}
use Rattle.tw_words.proofs.read.files_in.Goals as goal

pub returns-in-None : goal.returns-in-None
returns-in-None c =
    let none : None ≡ all_of (codes "files") (rows_of (found_of c.args.matches.now)) = c.in-None.ensures ∙ raw_values-rows (found_of c.args.matches.now) (codes "files") in
    ap (map (λ f. string_bytes f)) c.new.ensures.items ∙ ap (λ o. unwrap_or o []) none

pub returns-in-Some : goal.returns-in-Some
returns-in-Some c =
    let some : Some (map (λ v. v.now) c.in-Some.words.now) ≡ all_of (codes "files") (rows_of (found_of c.args.matches.now)) = c.in-Some.ensures ∙ raw_values-rows (found_of c.args.matches.now) (codes "files") in
    IfOk-weaker c.copies.result _ _ (λ files same. same ∙ ap (λ o. unwrap_or o []) some) c.copies.ensures
