use Rattle.std.proofs.Common.{◌≡◌, ◌∙◌, ◌∷◌, [], ◌+◌, ◌++◌, ℕ, suc, Some, None, drop, drop-cons, ap, map, option_map, subst, sym, arith}
use Rattle.std.proofs.lemmas.List.{map-append}
use Rattle.tw_clause.specs.View.{block_of}
use Rattle.tw_parse.specs.declared.decl.ExtName.{ExtName}
use Rattle.tw_decl.specs.Labels.{block_named}
use Rattle.tw_decl.proofs.Labelled.{label_is_none, labels_next, named_next}
use Rattle.tw_decl.proofs.worlds.blocks_named.Goals as goal

pub returns-in-None : goal.returns-in-None
returns-in-None c =
    let v = c.args.session.now in
    let xs = c.args.labels.now in
    let i = c.loop-label.label-index in
    let x = c.label-item.result in
    let next : suc i ≡ i + 1 = omega arith in
    let d = subst (λ (j : ℕ). drop i xs ≡ x ∷ drop j xs) next (subst (λ (y : ExtName). drop i xs ≡ y ∷ drop (suc i) xs) (sym c.label-item.is) (drop-cons xs i x c.loop-label-test.true)) in
    let n : block_named v x.name ≡ None = sym c.block_named.ensures ∙ ap (option_map (λ b. block_of b.now)) c.in-None.is in
    label_is_none v x (drop i xs) (drop (i + 1) xs) xs d n c.loop-label.invariant.labels

pub loop-label-preserved : goal.loop-label-preserved
loop-label-preserved c =
    let v = c.args.session.now in
    let xs = c.args.labels.now in
    let i = c.loop-label.label-index in
    let x = c.label-item.result in
    let B = block_of c.in-Some.block.now in
    let next : suc i ≡ i + 1 = omega arith in
    let d = subst (λ (j : ℕ). drop i xs ≡ x ∷ drop j xs) next (subst (λ (y : ExtName). drop i xs ≡ y ∷ drop (suc i) xs) (sym c.label-item.is) (drop-cons xs i x c.loop-label-test.true)) in
    let n : block_named v x.name ≡ Some B = sym c.block_named.ensures ∙ ap (option_map (λ b. block_of b.now)) c.in-Some.is in
    let p : map block_of c.push.new.self.items ≡ map block_of c.loop-label.blocks.items ++ B ∷ [] =
    ap (map block_of) c.in_ok-push-in-Some.ensures.items ∙ map-append block_of c.loop-label.blocks.items (c.in_ok-copy-in-Some.field-0 ∷ []) ∙ ap (λ C. map block_of c.loop-label.blocks.items ++ C ∷ []) c.in_ok-copy-in-Some.ensures in
    record {
      named = named_next v x (drop i xs) (drop (i + 1) xs) xs d B (map block_of c.loop-label.blocks.items) (map block_of c.push.new.self.items) n p c.loop-label.invariant.named;
      labels = labels_next v x (drop i xs) (drop (i + 1) xs) xs d B n c.loop-label.invariant.labels;
    }
