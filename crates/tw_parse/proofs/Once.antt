-- A sequence that the stack of waiting signs reads has this reading alone, and one that it doesn't read has none, or another one beside each.
use Rattle.std.proofs.Common.{◌≡◌, ℕ, List, [], ◌∷◌, map, true, false, Option, None, Some, refl, sym, ap, subst, ◌∙◌, ◌⊎◌, inl, inr, ⊎_elim, append-nil}
use Rattle.tw_fixity.specs.declared.table.Fix.{Fix}
use Rattle.tw_parse.specs.Grammar.{Item, atom, sign, Reads, ReadsOnce}
use Rattle.tw_parse.specs.Laws.{HasRow, HaveRows}
use Rattle.tw_parse.specs.Piles.{Settled, settle_all, run, outcome, reading}
use Rattle.tw_parse.specs.Readings.{sign_in}
use Rattle.tw_parse.specs.Signs.{outer_level}
use Rattle.tw_parse.specs.Syntax.{Term}
use Rattle.tw_parse.specs.declared.sign.Sign.{Sign}
use Rattle.tw_parse.proofs.Alike.{is_read, reading_alike}
use Rattle.tw_parse.proofs.Sound.{reading_is}
use Rattle.tw_parse.proofs.Tracks.{Tracked, track}
use Rattle.tw_parse.proofs.Turning.{Another}

-- each reading is what the stack finds, or there is another and the stack finds none
found : (rows : List ℕ → Option Fix) {f : Option Sign} {items : List Item} {M : Term} → Reads f items M → HaveRows rows items
    → (reading items ≡ Some (record { term = M; level = outer_level f })) ⊎ (Another f items M × (reading items ≡ None))
found rows {f = f} {items = items} {M = M} D have =
    ⊎_elim
    (λ (k : Tracked (Some ([], None)) [] f items M). inl (ap outcome k.runs ∙ ap (λ ws. settle_all ws k.side) (append-nil k.signs) ∙ k.settles))
    (λ (h : Another f items M × (run (Some ([], None)) items ≡ None)). inr (h.0, ap outcome h.1))
    ((track rows D have [] refl).0 refl)

pub once : (rows : List ℕ → Option Fix) (items : List Item) (x : Settled) → HaveRows rows items → reading items ≡ Some x → ReadsOnce items x.term
once rows items x have e =
    let is = reading_is items x e in (
      (is.0, is.2),
      λ f N D. ⊎_elim
          (λ same. let both : Some (record { term = N; level = outer_level f }) ≡ Some x = sym same ∙ e in ap (λ (y : Settled). y.term) (let at : record { term = N; level = outer_level f } ≡ x = cc in at))
          (λ h. let clash : None ≡ Some x = sym h.1 ∙ e in cc)
          (found rows D have),
    )

pub not_once : (rows : List ℕ → Option Fix) (items : List Item) → HaveRows rows items → reading items ≡ None → (M : Term) → ReadsOnce items M → ⊥
not_once rows items have none M reads =
    ⊎_elim
    (λ same. let clash : None ≡ Some (record { term = M; level = outer_level reads.0.0 }) = sym none ∙ same in cc)
    (λ h. let other = h.0 in other.differs (reads.1 other.outer other.term other.reads))
    (found rows reads.0.1 have)

-- the rows of items with the same signs
pub rows_alike : (rows : List ℕ → Option Fix) (items others : List Item) → map sign_in others ≡ map sign_in items → HaveRows rows items → HaveRows rows others
rows_alike rows [] [] e have = tt
rows_alike rows [] (j ∷ js) e have = cc
rows_alike rows (i ∷ is) [] e have = cc
rows_alike rows (atom M ∷ is) (atom N ∷ js) e have = rows_alike rows is js (let f : map sign_in js ≡ map sign_in is = cc in f) have
rows_alike rows (atom M ∷ is) (sign t ∷ js) e have = let clash : Some t ≡ None = cc in cc
rows_alike rows (sign s ∷ is) (atom N ∷ js) e have = let clash : None ≡ Some s = cc in cc
rows_alike rows (sign s ∷ is) (sign t ∷ js) e have =
    let same : t ≡ s = cc in
    let f : map sign_in js ≡ map sign_in is = cc in
    let P : Sign → Type 0 = λ u. HasRow rows u in
    (subst P (sym same) have.0, rows_alike rows is js f have.1)

read_some : (o : Option Settled) → is_read o ≡ true → (x : Settled) × (o ≡ Some x)
read_some None e = cc
read_some (Some x) e = (x, refl)

read_none : (o : Option Settled) → is_read o ≡ false → o ≡ None
read_none None e = refl
read_none (Some x) e = cc

-- all items with the same signs have one reading each
pub all_once : (rows : List ℕ → Option Fix) (items : List Item) (x : Settled) → HaveRows rows items → reading items ≡ Some x
    → (others : List Item) → map sign_in others ≡ map sign_in items → (M : Term) × ReadsOnce others M
all_once rows items x have e others same =
    let some = read_some (reading others) (reading_alike items others same ∙ ap is_read e) in
    (some.0.term, once rows others some.0 (rows_alike rows items others same have) some.1)

-- none of them has
pub none_once : (rows : List ℕ → Option Fix) (items : List Item) → HaveRows rows items → reading items ≡ None
    → (others : List Item) → map sign_in others ≡ map sign_in items → (M : Term) → ReadsOnce others M → ⊥
none_once rows items have e others same M reads =
    not_once rows others (rows_alike rows items others same have) (read_none (reading others) (reading_alike items others same ∙ ap is_read e)) M reads

abbrev Decided : List Item → Type 0
Decided items = ((others : List Item) → map sign_in others ≡ map sign_in items → (M : Term) × ReadsOnce others M)
    ⊎ ((others : List Item) → map sign_in others ≡ map sign_in items → (M : Term) → ReadsOnce others M → ⊥)

pub decided : (rows : List ℕ → Option Fix) (items : List Item) → HaveRows rows items → Decided items
decided rows items have =
    let P : Option Settled → Type 0 = λ o. reading items ≡ o → Decided items in
    let go : P (reading items) = elim (reading items) as P [ Some x ↦ λ e. inl (all_once rows items x have e) | None ↦ λ e. inr (none_once rows items have e) ] in
    go refl
