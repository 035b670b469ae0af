-- Blocks and worlds stay sound: under later entries, with a block more, and with other worlds.
use Rattle.std.proofs.Common.{◌≡◌, ℕ, zero, suc, List, [], ◌∷◌, ◌++◌, Bool, true, false, Option, None, Some, refl, sym, ap, ◌∙◌, subst, inl, inr}
use Rattle.std.specs.Prelude.{◌⊎◌, ◌||◌, cond, is_some, map as each, if◌then◌else◌}
use Rattle.std.specs.Str.{bytes_eq}
use Rattle.lf.specs.Entries.{BodyIsTyped, Entry, IsCanonicalEntry, signature_of}
use Rattle.lf.specs.Subordination.{AreTypedBlocks, Block, IsTypedBlock, Member}
use Rattle.lf.specs.Syntax.{Kind, LfType, kind_pi, star}
use Rattle.lf.specs.Typing.{IsContext, IsKind, Signature}
use Rattle.lf.specs.Variables.{onto, same_number}
use Rattle.lf.proofs.Entries.{kinds_kept, types_kept}
use Rattle.lf.proofs.Growth.{growth_keeps_types}
use Rattle.lf_checks.specs.OrderFaults.{AreJoined}
use Rattle.lf_checks.specs.Tests.{is_in}
use Rattle.lf_checks.specs.WorldFaults.{WorldRow, worlds_of}
use Rattle.lf_checks.proofs.Joined.{joined_blocks}
use Rattle.tw_parse.specs.Syntax.{Declaration}
use Rattle.tw_parse.specs.declared.decl.ExtName.{ExtName}
use Rattle.tw_decl.specs.Blocks.{GivesBlock, all_binders, behind, block_by, first_binders}
use Rattle.tw_decl.specs.Labels.{block_named, is_label, newest_of, or_else}
use Rattle.tw_decl.specs.View.{AreAmong, BlocksStand, IsSound, View, with_block, with_entry, with_worlds, world_row, rows_beside}

-- Later entries.

context_later : (f : Entry) (es : List Entry) (G : List LfType) → IsContext (signature_of es) G → IsContext (signature_of (f ∷ es)) G
context_later f es [] c = c
context_later f es (A ∷ G) (c, a) = (context_later f es G c, growth_keeps_types (signature_of es) (signature_of (f ∷ es)) (types_kept f es) (kinds_kept f es) G A a)

blocks_later : (f : Entry) (es : List Entry) (Bs : List Block) → AreTypedBlocks (signature_of es) Bs → AreTypedBlocks (signature_of (f ∷ es)) Bs
blocks_later f es Bs t B m = context_later f es (onto B.entries B.some) (t B m)

pub entry_sound : (v : View) (e : Entry) → IsSound v → IsCanonicalEntry (signature_of v.signature) e → IsSound (with_entry v e)
entry_sound v e s h = ((s.0, h), record { typed = blocks_later e v.signature v.checked.blocks s.1.typed; listed = s.1.listed })

-- the same of the parts of a session
pub stand_later : (f : Entry) (es fs : List Entry) (Bs : List Block) (rows : List WorldRow) → fs ≡ f ∷ es → BlocksStand es Bs rows → BlocksStand fs Bs rows
stand_later f es fs Bs rows e s = subst (λ gs. BlocksStand gs Bs rows) (sym e) (record { typed = blocks_later f es Bs s.typed; listed = s.listed })

-- One block more.

member_front : {A : Type 0} (x : A) (xs ys : List A) → Member x xs → Member x (xs ++ ys)
member_front x [] ys m = absurd m
member_front x (y ∷ xs) ys (inl e) = inl e
member_front x (y ∷ xs) ys (inr m) = inr (member_front x xs ys m)

member_of_both : {A : Type 0} (x : A) (xs ys : List A) → Member x (xs ++ ys) → Member x xs ⊎ Member x ys
member_of_both x [] ys m = inr m
member_of_both x (y ∷ xs) ys (inl e) = inl (inl e)
member_of_both x (y ∷ xs) ys (inr m) = by (member_of_both x xs ys m)
  where
    by : Member x xs ⊎ Member x ys → Member x (y ∷ xs) ⊎ Member x ys
    by (inl k) = inl (inr k)
    by (inr k) = inr k

pub block_sound : (v : View) (B : Block) → IsSound v → IsTypedBlock (signature_of v.signature) B → IsSound (with_block v B)
block_sound v B s t = (
  s.0,
  record {
    typed = λ C m. typed C (member_of_both C v.checked.blocks (B ∷ []) m);
    listed = λ r m C k. member_front C v.checked.blocks (B ∷ []) (s.1.listed r m C k);
  },
)
  where
    typed : (C : Block) → Member C v.checked.blocks ⊎ Member C (B ∷ []) → IsTypedBlock (signature_of v.signature) C
    typed C (inl k) = s.1.typed C k
    typed C (inr (inl e)) = subst (IsTypedBlock (signature_of v.signature)) (sym e) t
    typed C (inr (inr k)) = absurd k

pub stand_pushed : (es : List Entry) (Bs Cs : List Block) (B : Block) (rows : List WorldRow) → Cs ≡ Bs ++ B ∷ [] → BlocksStand es Bs rows → IsTypedBlock (signature_of es) B → BlocksStand es Cs rows
stand_pushed es Bs Cs B rows e s t = subst (λ Ds. BlocksStand es Ds rows) (sym e) (record {
  typed = λ C m. typed C (member_of_both C Bs (B ∷ []) m);
  listed = λ r m C k. member_front C Bs (B ∷ []) (s.listed r m C k);
})
  where
    typed : (C : Block) → Member C Bs ⊎ Member C (B ∷ []) → IsTypedBlock (signature_of es) C
    typed C (inl k) = s.typed C k
    typed C (inr (inl q)) = subst (IsTypedBlock (signature_of es)) (sym q) t
    typed C (inr (inr k)) = absurd k

-- Other worlds.

row_of_worlds : (W : List Block) (r : WorldRow) (families : List ℕ) → Member r (each (world_row W) families) → r.blocks ≡ W
row_of_worlds W r [] m = absurd m
row_of_worlds W r (f ∷ families) (inl e) = ap (λ (x : WorldRow). x.blocks) e
row_of_worlds W r (f ∷ families) (inr m) = row_of_worlds W r families m

among_all : (b : Bool) (r x : WorldRow) (rows others : List WorldRow) → (Member r others → Member r rows) → Member r (if b then others else x ∷ others) → Member r (x ∷ rows)
among_all true r x rows others f m = inr (f m)
among_all false r x rows others f (inl e) = inl e
among_all false r x rows others f (inr m) = inr (f m)

-- what isn't taken out was there
row_beside : (families : List ℕ) (rows : List WorldRow) (r : WorldRow) → Member r (rows_beside families rows) → Member r rows
row_beside families [] r m = m
row_beside families (x ∷ rows) r m = among_all (is_in x.family families) r x rows (rows_beside families rows) (row_beside families rows r) m

pub stand_rows : (es : List Entry) (Bs : List Block) (rows news : List WorldRow) (families : List ℕ) (W : List Block) → news ≡ each (world_row W) families ++ rows_beside families rows → BlocksStand es Bs rows → AreAmong Bs W → BlocksStand es Bs news
stand_rows es Bs rows news families W e s a = subst (BlocksStand es Bs) (sym e) (record { typed = s.typed; listed = λ r m. listed r (member_of_both r (each (world_row W) families) (rows_beside families rows) m) })
  where
    listed : (r : WorldRow) → Member r (each (world_row W) families) ⊎ Member r (rows_beside families rows) → AreAmong Bs r.blocks
    listed r (inl k) = subst (AreAmong Bs) (sym (row_of_worlds W r families k)) a
    listed r (inr k) = s.listed r (row_beside families rows r k)

pub worlds_sound : (v : View) (families : List ℕ) (W : List Block) → IsSound v → AreAmong v.checked.blocks W → IsSound (with_worlds v families W)
worlds_sound v families W s a = (s.0, stand_rows v.signature v.checked.blocks v.checked.worlds (with_worlds v families W).checked.worlds families W refl s.1 a)

-- The block of a kind is typed.

first_typed : (Σ : Signature) (n : ℕ) (G : List LfType) (K : Kind) → IsContext Σ G → IsKind Σ G K → IsContext Σ (first_binders n G K) × IsKind Σ (first_binders n G K) (behind n K)
first_typed Σ zero G K c k = (c, k)
first_typed Σ (suc n) G (kind_pi A K) c (a, k) = first_typed Σ n (A ∷ G) K (c, a) k
first_typed Σ (suc n) G star c k = (c, k)

all_typed : (Σ : Signature) (D G : List LfType) (K : Kind) → IsContext Σ (onto D G) → IsKind Σ (onto D G) K → IsContext Σ (onto (all_binders D K) G)
all_typed Σ D G (kind_pi A K) c (a, k) = all_typed Σ (A ∷ D) G K (c, a) k
all_typed Σ D G star c k = c

block_typed : (Σ : Signature) (l : List ℕ) (n : ℕ) (K : Kind) → IsKind Σ [] K → IsTypedBlock Σ (block_by l n K)
block_typed Σ l n K k = let h = first_typed Σ n [] K tt k in all_typed Σ [] (first_binders n [] K) (behind n K) h.0 h.1

pub given_typed : (v : View) (l : ExtName) (n : ℕ) (d : Declaration) (B : Block) → GivesBlock v l n d B → IsTypedBlock (signature_of v.signature) B
given_typed v l n d B g =
    let k : IsKind (signature_of v.signature) [] g.kind = (let t = g.stands.typed in subst (λ b. BodyIsTyped (signature_of v.signature) b) g.form.declares t) in
    subst (IsTypedBlock (signature_of v.signature)) (sym g.gives) (block_typed (signature_of v.signature) l.name n g.kind k)

-- What labels name is declared.

newest_here : (C : Block) (Bs : List Block) (B : Block) (b : Bool) (o : Option Block) → or_else o (if b then Some C else None) ≡ Some B → (o ≡ Some B → Member B Bs) → Member B (C ∷ Bs)
newest_here C Bs B b (Some D) e later = inr (later e)
newest_here C Bs B true None e later = inl cc
newest_here C Bs B false None e later = absurd cc

newest_in : (Bs : List Block) (l : List ℕ) (B : Block) → newest_of Bs l ≡ Some B → Member B Bs
newest_in [] l B e = absurd cc
newest_in (C ∷ Bs) l B e = newest_here C Bs B (bytes_eq C.label l) (newest_of Bs l) e (λ h. newest_in Bs l B h)

block_is_declared : (v : View) (l : List ℕ) (B : Block) → block_named v l ≡ Some B → Member B v.checked.blocks
block_is_declared v l B e = newest_in v.checked.blocks l B e

pub named_among : (v : View) (ls : List ExtName) (W : List Block) → each (λ (l : ExtName). block_named v l.name) ls ≡ each Some W → AreAmong v.checked.blocks W
named_among v [] [] e B m = absurd m
named_among v [] (C ∷ W) e B m = absurd cc
named_among v (l ∷ ls) [] e B m = absurd m
named_among v (l ∷ ls) (C ∷ W) e B (inl q) = let first : block_named v l.name ≡ Some C = cc in subst (λ X. Member X v.checked.blocks) (sym q) (block_is_declared v l.name C first)
named_among v (l ∷ ls) (C ∷ W) e B (inr m) = let rest : each (λ (x : ExtName). block_named v x.name) ls ≡ each Some W = cc in named_among v ls W rest B m

-- a label names a block exactly where a block has it
label_or_later : (C : Block) (b : Bool) (o : Option Block) → (b || is_some o) ≡ is_some (or_else o (if b then Some C else None))
label_or_later C true (Some D) = refl
label_or_later C true None = refl
label_or_later C false (Some D) = refl
label_or_later C false None = refl

label_is_newest : (Bs : List Block) (l : List ℕ) → is_label Bs l ≡ is_some (newest_of Bs l)
label_is_newest [] l = refl
label_is_newest (C ∷ Bs) l = ap (λ (b : Bool). bytes_eq C.label l || b) (label_is_newest Bs l) ∙ label_or_later C (bytes_eq C.label l) (newest_of Bs l)

pub no_block_no_label : (v : View) (l : List ℕ) → block_named v l ≡ None → is_label v.checked.blocks l ≡ false
no_block_no_label v l e = label_is_newest v.checked.blocks l ∙ ap is_some e

-- a block that is named has the label
pub block_has_label : (v : View) (l : List ℕ) (B : Block) → block_named v l ≡ Some B → is_label v.checked.blocks l ≡ true
block_has_label v l B e = label_is_newest v.checked.blocks l ∙ ap is_some e

-- The joined blocks of families are declared, and so typed.

row_here : (b : Bool) (r : WorldRow) (rows : List WorldRow) (f : ℕ) (V : List Block) → cond b (Some r.blocks) (worlds_of rows f) ≡ Some V → (worlds_of rows f ≡ Some V → (q : WorldRow) × Member q rows × (q.blocks ≡ V)) → (q : WorldRow) × Member q (r ∷ rows) × (q.blocks ≡ V)
row_here true r rows f V e g = (r, inl refl, cc)
row_here false r rows f V e g = let (q, m, same) = g e in (q, inr m, same)

found_row : (rows : List WorldRow) (f : ℕ) (V : List Block) → worlds_of rows f ≡ Some V → (r : WorldRow) × Member r rows × (r.blocks ≡ V)
found_row [] f V e = absurd cc
found_row (r ∷ rows) f V e = row_here (same_number r.family f) r rows f V e (λ h. found_row rows f V h)

pub joined_typed : (v : View) (families : List ℕ) (W : List Block) → IsSound v → AreJoined v.checked.worlds families W → AreTypedBlocks (signature_of v.signature) W
joined_typed v families W s j B m =
    let (f, i, V, e, k) = (joined_blocks v.checked.worlds families W j B).0 m in
    let (r, q, same) = found_row v.checked.worlds f V e in
    s.1.typed B (s.1.listed r q B (subst (Member B) (sym same) k))
