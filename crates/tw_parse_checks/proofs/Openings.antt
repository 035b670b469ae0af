-- Binders of a block, and what stands before their types: tokens are one of them at most.
use Rattle.std.proofs.Common.{◌≡◌, ℕ, List, [], ◌∷◌, true, false, Some, codes, refl, sym, ap, subst, ◌∙◌}
use Rattle.std.specs.Str.{bytes_eq}
use Rattle.std.proofs.lemmas.Slice.Eq.{bytes_eq-Decides}
use Rattle.tw_parse.specs.Failing.{is_item}
use Rattle.tw_parse.specs.Outlines.{Table, Outline, Sequence}
use Rattle.tw_parse.specs.Words.{Lexeme, first_word}
use Rattle.tw_parse.specs.declared.decl.ExtName.{ExtName}
use Rattle.tw_parse.specs.declared.words.Word.TheVariants.{Name, Colon, Dot, LBrace, RBrace}
use Rattle.tw_parse.proofs.OneOutline.{SameSequence, sequence_once}
use Rattle.tw_parse_checks.specs.Parts.{HasNoBinder}
use Rattle.tw_parse_checks.specs.Shapes.{Opening, an_opening, Binder, TakesBinder, a_typed_binder, a_bare_binder, Says, TakesLabel, a_label, TakesSome, no_some, some_binders, Closing, by_dot}
use Rattle.tw_parse_checks.proofs.Rows.{IsOnce, row_once}

pub opening_once : {tokens rest others : List Lexeme} {x y : ExtName} → Opening tokens x rest → Opening tokens y others → (x ≡ y) × (rest ≡ others)
opening_once (an_opening e f g) (an_opening h i j) = (refl, refl)

pub opening_brace : {tokens rest : List Lexeme} {x : ExtName} → Opening tokens x rest → first_word tokens ≡ LBrace
opening_brace (an_opening e f g) = e

same_binder : (x y : ExtName) (A B : Outline) → x ≡ y → A ≡ B → ◌≡◌ {A = Binder} (record { variable = x; type = Some A }) (record { variable = y; type = Some B })
same_binder x y A B e f = ap (λ (z : ExtName). record { variable = z; type = Some A }) e ∙ ap (λ (C : Outline). record { variable = y; type = Some C }) f

pub binders_once : (table : Table) → IsOnce (TakesBinder table)
binders_once table tokens rest others b d (a_typed_binder {closer = c} {x = x} {A = A} o s e) (a_typed_binder {closer = k} {x = y} {A = B} p t f) =
    let heads = opening_once o p in
    let same : SameSequence A B (c ∷ rest) (k ∷ others) = sequence_once table s B (k ∷ others) (subst (λ (ts : List Lexeme). Sequence table ts B (k ∷ others)) (sym heads.1) t) (ap is_item e) (ap is_item f) in
    let rests : c ∷ rest ≡ k ∷ others = same.rests in
    (same_binder x y A B heads.0 same.outlines, let is : rest ≡ others = cc in is)
binders_once table tokens rest others b d (a_typed_binder (an_opening e f g) s h) (a_bare_binder i j k) = let clash : Colon ≡ RBrace = sym g ∙ k in cc
binders_once table tokens rest others b d (a_bare_binder i j k) (a_typed_binder (an_opening e f g) s h) = let clash : Colon ≡ RBrace = sym g ∙ k in cc
binders_once table tokens rest others b d (a_bare_binder e f g) (a_bare_binder h i j) = (refl, refl)

binder_brace : (table : Table) {tokens rest : List Lexeme} {b : Binder} → TakesBinder table tokens b rest → first_word tokens ≡ LBrace
binder_brace table (a_typed_binder o s e) = opening_brace o
binder_brace table (a_bare_binder e f g) = e

-- where no brace stands no binder does
pub no_brace : (table : Table) (tokens : List Lexeme) → (first_word tokens ≡ LBrace → ⊥) → HasNoBinder table tokens
no_brace table tokens isnt = (λ b rest t. isnt (binder_brace table t), λ type l. isnt (opening_brace l.1))

pub word_is_no_binder : (table : Table) (word : List ℕ) (w : Lexeme) (rest : List Lexeme) → Says word w → HasNoBinder table (w ∷ rest)
word_is_no_binder table word w rest s = no_brace table (w ∷ rest) (λ e. let clash : Name ≡ LBrace = sym s.0 ∙ e in cc)

pub closing_binder : (table : Table) (tokens : List Lexeme) → Closing false tokens → HasNoBinder table tokens
closing_binder table tokens (by_dot {dot = d} e) = no_brace table (d ∷ []) (λ f. let clash : Dot ≡ LBrace = sym e ∙ f in cc)

-- Labels and words

pub label_once : {tokens rest others : List Lexeme} {l m : ExtName} → TakesLabel tokens l rest → TakesLabel tokens m others → (l ≡ m) × (rest ≡ others)
label_once (a_label e f) (a_label g h) = (refl, refl)

pub one_word : (w : Lexeme) → Says (codes "some") w → Says (codes "block") w → ⊥
one_word w s b =
    let is : w.bytes ≡ codes "some" = (bytes_eq-Decides w.bytes (codes "some")).0 s.1 in
    let clash : bytes_eq (codes "some") (codes "block") ≡ true = sym (ap (λ (bs : List ℕ). bytes_eq bs (codes "block")) is) ∙ b.1 in
    cc

-- what stands before `block` is read in one way
pub some_once : (table : Table) {tokens behind others : List Lexeme} {w v : Lexeme} {ss rs : List Binder} → TakesSome table tokens ss (w ∷ behind) → Says (codes "block") w → TakesSome table tokens rs (v ∷ others) → Says (codes "block") v → (ss ≡ rs) × (w ∷ behind ≡ v ∷ others)
some_once table no_some b no_some d = (refl, refl)
some_once table {w = w} no_some b (some_binders s r) d = absurd (one_word w s b)
some_once table {v = v} (some_binders s r) b no_some d = absurd (one_word v s d)
some_once table {behind = behind} {others = others} {w = w} {v = v} (some_binders s r) b (some_binders t q) d =
    row_once (TakesBinder table) (binders_once table) r q (word_is_no_binder table (codes "block") w behind b).0 (word_is_no_binder table (codes "block") v others d).0
