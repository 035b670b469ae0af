-- Writing along a context of worlds: the entries of the instances that are chosen become their constants.
use Rattle.std.proofs.Common.{◌≡◌, ℕ, zero, suc, List, [], ◌∷◌, Option, Some, None, inl, inr, refl, sym, ap, ◌∙◌, subst}
use Rattle.std.specs.Prelude.{Bool, true, ◌⊎◌}
use Rattle.lf.specs.Syntax.{LfType, weaken, lift_renaming}
use Rattle.lf.specs.Substitution.{Image, keep, rename_image, lift, substitute_type, reduce, after}
use Rattle.lf.specs.AtOnce.{in_front}
use Rattle.lf.specs.Skeletons.{constant_skeletons, family_skeletons, context_skeletons}
use Rattle.lf.specs.Typing.{Signature, TypeAt, ImageHasType, IsTypedSubstitution, IsType, IsContext, IsSignature}
use Rattle.lf.specs.Variables.{onto, under, everything}
use Rattle.lf.specs.Subordination.{Block, AreTypedBlocks}
use Rattle.lf.specs.Worlds.{World, OpenInstance, no_variables, single_variable, whole_instance, begin_instance, next_entry, single_beside}
use Rattle.lf.proofs.Growth.{growth_keeps_types}
use Rattle.lf.proofs.Partial.{ImageHasType-weakened, typed-lift}
use Rattle.lf.proofs.Renaming.{reduction_is_natural}
use Rattle.lf.proofs.SkeletonTypes.{substitutions_compose_type}
use Rattle.lf.proofs.Substitution.{TypedSubstitution, skeleton_context_of, substitution_keeps_types, lifted_substitution_typed, typed_substitution_by_skeletons}
use Rattle.lf.proofs.ToSkeletons.{type_by_skeletons}
use Rattle.lf.proofs.TypeLaws.{rename_substituted_type}
use Rattle.lf_cases.specs.Cover.{InstanceIn, InstanceBefore, place_of}
use Rattle.lf_coverage.proofs.GroundTyped.{front_typed}
use Rattle.lf_coverage.proofs.Parts.{none_some, some_same}
use Rattle.lf_numbered.proofs.EntrySignature.{grown_contexts, grown_image}
use Rattle.lf_numbered.proofs.WritingTyped.{HaveTypes, types_before, typed_after, entry_value_typed}
use Rattle.lf_numbered.proofs.WritingValues.{moved, AreWritten, written_moved, entry_value, written_next, front_after, lift_after, front_lift}

under_everything : (i : ℕ) → under everything i ≡ true
under_everything zero = refl
under_everything (suc i) = refl

-- The values of an instance that isn't whole yet are typed.
pub open_typed : (Σ : Signature) → IsSignature Σ → {W : List Block} {S : ℕ → Bool} {B : Block} {G es : List LfType} {θ : ℕ → Image} → OpenInstance Σ W S B G es θ → IsTypedSubstitution Σ (onto es B.some) G θ
open_typed Σ ok (begin_instance w v) i A g = v.typed i A g refl
open_typed Σ ok (next_entry {B = B} {G = G} {es = es} {θ = θ} E o t) i A g = typed-lift Σ ok everything (onto es B.some) G θ E (λ j C h u. open_typed Σ ok o j C h) i A g (under_everything i)
open_typed Σ ok (single_beside {B = B} {G = G} {es = es} {θ = θ} {A = X} o t n) i A g = subst (ImageHasType Σ (X ∷ G) (rename_image suc (θ i))) (rename_substituted_type reduce reduction_is_natural suc θ A) (ImageHasType-weakened Σ ok G X (θ i) (substitute_type reduce θ A) (open_typed Σ ok o i A g))

-- an entry of the instance that isn't whole yet, where it is chosen
abbrev IsOwn : Option ℕ → List LfType → (ℕ → Image) → ℕ → Type 0
IsOwn own es θ v = (n : ℕ) × (own ≡ Some n) × (later : List LfType) × (E : LfType) × (ds : List LfType) × (onto later (E ∷ ds) ≡ es) × (θ (place_of later) ≡ keep v)

-- written where one more variable stays, and where it is left
stays_written : (n : ℕ) (O es : List LfType) (ρ φ τ : ℕ → Image) → φ ≡ moved τ → AreWritten n O es (after ρ τ) → AreWritten n O es (after (lift ρ) φ)
stays_written n O es ρ φ τ e w = subst (AreWritten n O es) (sym (ap (after (lift ρ)) e ∙ lift_after ρ τ)) (written_moved n O es (after ρ τ) w)

left_written : (n : ℕ) (O es : List LfType) (x : Image) (ρ φ τ : ℕ → Image) → φ ≡ moved τ → AreWritten n O es (after ρ τ) → AreWritten n O es (after (in_front x ρ) φ)
left_written n O es x ρ φ τ e w = subst (AreWritten n O es) (sym (ap (after (in_front x ρ)) e ∙ front_after x ρ τ)) w

module _ (Σ' Σe : Signature) (ok' : IsSignature Σ') (ok : IsSignature Σe) (ts : (c : ℕ) (A : LfType) → Σ'.types c ≡ Some A → Σe.types c ≡ Some A) (ks : (a : ℕ) (K : Rattle.lf.specs.Syntax.Kind) → Σ'.kinds a ≡ Some K → Σe.kinds a ≡ Some K) where
  -- what is written of a context
  pub record Written (G : List LfType) : Type 0 where
    pub left : List LfType
    pub values : ℕ → Image
    pub back : ℕ → ℕ
    pub source : IsContext Σe G
    pub context : IsContext Σe left
    pub typed : IsTypedSubstitution Σe G left values
    pub all : (u : ℕ) (B : LfType) → TypeAt left u B → (A : LfType) × TypeAt G (back u) A × (values (back u) ≡ keep u)

  -- a variable that stays
  abbrev pub Stays : {G : List LfType} → Written G → ℕ → Type 0
  Stays r v = (u : ℕ) × (r.values v ≡ keep u) × (r.back u ≡ v)

  more : (G : List LfType) (A : LfType) → IsType Σ' G A → IsType Σe G A
  more G A t = growth_keeps_types Σ' Σe ts ks G A t

  nothing_left : Written []
  nothing_left = record { left = []; values = keep; back = λ u. u; source = tt; context = tt; typed = λ i A g. absurd g; all = λ u B g. absurd g }

  stay : (G : List LfType) (A : LfType) → IsType Σ' G A → Written G → Written (A ∷ G)
  stay G A t r =
      let s : TypedSubstitution Σe ok G r.left r.values = record { typed = r.typed; source_skeletons = skeleton_context_of Σe ok G r.source; target_skeletons = skeleton_context_of Σe ok r.left r.context } in
      record {
        left = substitute_type reduce r.values A ∷ r.left;
        values = lift r.values;
        back = lift_renaming r.back;
        source = (r.source, more G A t);
        context = (r.context, substitution_keeps_types Σe ok G r.left r.values A s (more G A t));
        typed = (lifted_substitution_typed Σe ok G r.left r.values A s (type_by_skeletons Σe G A (more G A t))).typed;
        all = all;
      }
    where
      all : (u : ℕ) (B : LfType) → TypeAt (substitute_type reduce r.values A ∷ r.left) u B → (X : LfType) × TypeAt (A ∷ G) (lift_renaming r.back u) X × (lift r.values (lift_renaming r.back u) ≡ keep u)
      all zero B e = (weaken A, refl, refl)
      all (suc u) B (C, g, e) = let (X, h, q) = r.all u C g in (weaken X, (X, h, refl), ap (rename_image suc) q)

  stays_zero : (G : List LfType) (A : LfType) (t : IsType Σ' G A) (r : Written G) → Stays (stay G A t r) zero
  unfolding stay
  stays_zero G A t r = (zero, refl, refl)

  stays_next : (G : List LfType) (A : LfType) (t : IsType Σ' G A) (r : Written G) (v : ℕ) → Stays r v → Stays (stay G A t r) (suc v)
  unfolding stay
  stays_next G A t r v (u, q, e) = (suc u, ap (rename_image suc) q, ap suc e)

  leave : (G : List LfType) (A : LfType) → IsType Σ' G A → (r : Written G) (x : Image) → ImageHasType Σe r.left x (substitute_type reduce r.values A) → Written (A ∷ G)
  leave G A t r x h = record {
    left = r.left;
    values = in_front x r.values;
    back = λ u. suc (r.back u);
    source = (r.source, more G A t);
    context = r.context;
    typed = front_typed Σe ok [] (λ C i. absurd i) G r.left A x r.values r.typed h;
    all = λ u B g. let (X, k, q) = r.all u B g in (weaken X, (X, k, refl), q);
  }

  module _ {W : List Block} {S : ℕ → Bool} (typed : AreTypedBlocks Σ' W) where
    -- an entry of an instance that is chosen, where the entries have the constants from a number on
    abbrev pub IsChosen : {G : List LfType} → World Σ' W S G → ((ℕ → Image) → Option ℕ) → ℕ → Type 0
    IsChosen w choice v = (B : Block) × (φ : ℕ → Image) × InstanceIn w B φ × (n : ℕ) × (choice φ ≡ Some n) × (later : List LfType) × (E : LfType) × (ds : List LfType) × (onto later (E ∷ ds) ≡ B.entries) × (φ (place_of later) ≡ keep v)

    abbrev IsChosenBefore : {C : Block} {G es : List LfType} {τ : ℕ → Image} → OpenInstance Σ' W S C G es τ → ((ℕ → Image) → Option ℕ) → ℕ → Type 0
    IsChosenBefore o choice v = (B : Block) × (φ : ℕ → Image) × InstanceBefore o B φ × (n : ℕ) × (choice φ ≡ Some n) × (later : List LfType) × (E : LfType) × (ds : List LfType) × (onto later (E ∷ ds) ≡ B.entries) × (φ (place_of later) ≡ keep v)

    pub record Result {G : List LfType} (w : World Σ' W S G) (choice : (ℕ → Image) → Option ℕ) : Type 0 where
      pub written : Written G
      pub each : (v : ℕ) (A : LfType) → TypeAt G v A → IsChosen w choice v ⊎ Stays written v
      pub chosen : (B : Block) (φ : ℕ → Image) → InstanceIn w B φ → (n : ℕ) → choice φ ≡ Some n → AreWritten n B.some B.entries (after written.values φ)

    record OpenResult {C : Block} {G es : List LfType} {τ : ℕ → Image} (o : OpenInstance Σ' W S C G es τ) (choice : (ℕ → Image) → Option ℕ) (own : Option ℕ) : Type 0 where
      pub written : Written G
      pub each : (v : ℕ) (A : LfType) → TypeAt G v A → IsChosenBefore o choice v ⊎ IsOwn own es τ v ⊎ Stays written v
      pub chosen : (B : Block) (φ : ℕ → Image) → InstanceBefore o B φ → (n : ℕ) → choice φ ≡ Some n → AreWritten n B.some B.entries (after written.values φ)
      pub own_written : (n : ℕ) → own ≡ Some n → AreWritten n C.some es (after written.values τ)

    -- The next entry of an instance
    module _ {C : Block} {G es : List LfType} {θ : ℕ → Image} (E : LfType) (o : OpenInstance Σ' W S C G es θ) (t : IsType Σ' G (substitute_type reduce θ E)) (choice : (ℕ → Image) → Option ℕ) (c : IsContext Σ' (onto (E ∷ es) C.some)) where
      abbrev T : LfType
      T = substitute_type reduce θ E

      chosen_next : (v : ℕ) → IsChosenBefore o (λ φ. choice (moved φ)) v → IsChosenBefore (next_entry E o t) choice (suc v)
      chosen_next v (B, φ, i, n, q, later, D, ds, e, p) = (B, moved φ, (φ, i, refl), n, q, later, D, ds, e, ap (rename_image suc) p)

      own_next : (own : Option ℕ) (v : ℕ) → IsOwn own es θ v → IsOwn own (E ∷ es) (lift θ) (suc v)
      own_next own v (n, q, later, D, ds, e, p) = (n, q, E ∷ later, D, ds, ap (λ fs. E ∷ fs) e, ap (rename_image suc) p)

      next_stays : OpenResult o (λ φ. choice (moved φ)) None → OpenResult (next_entry E o t) choice None
      unfolding stay
      next_stays r = record {
        written = stay G T t r.written;
        each = each;
        chosen = λ B φ (τ, i, e) n q. stays_written n B.some B.entries r.written.values φ τ e (r.chosen B τ i n (sym (ap choice e) ∙ q));
        own_written = λ n q. absurd (none_some q);
      }
        where
          each : (v : ℕ) (A : LfType) → TypeAt (T ∷ G) v A → IsChosenBefore (next_entry E o t) choice v ⊎ IsOwn None (E ∷ es) (lift θ) v ⊎ Stays (stay G T t r.written) v
          each zero A g = inr (inr (stays_zero G T t r.written))
          each (suc v) A (X, g, e) = by (r.each v X g)
            where
              by : IsChosenBefore o (λ φ. choice (moved φ)) v ⊎ IsOwn None es θ v ⊎ Stays r.written v → IsChosenBefore (next_entry E o t) choice (suc v) ⊎ IsOwn None (E ∷ es) (lift θ) (suc v) ⊎ Stays (stay G T t r.written) (suc v)
              by (inl k) = inl (chosen_next v k)
              by (inr (inl k)) = inr (inl (own_next None v k))
              by (inr (inr k)) = inr (inr (stays_next G T t r.written v k))

      next_leaves : (m : ℕ) → HaveTypes Σe m C.some (E ∷ es) → OpenResult o (λ φ. choice (moved φ)) (Some m) → OpenResult (next_entry E o t) choice (Some m)
      unfolding leave
      next_leaves m h r = record {
        written = leave G T t r.written x image;
        each = each;
        chosen = λ B φ (τ, i, e) n q. left_written n B.some B.entries x ρ φ τ e (r.chosen B τ i n (sym (ap choice e) ∙ q));
        own_written = λ n q. subst (λ k. AreWritten k C.some (E ∷ es) (after (in_front x ρ) (lift θ))) (some_same q) (subst (AreWritten m C.some (E ∷ es)) (sym (front_lift x ρ θ)) (written_next m C.some es E (after ρ θ) (r.own_written m refl)));
      }
        where
          ρ : ℕ → Image
          ρ = r.written.values

          x : Image
          x = entry_value m C.some es E (after r.written.values θ)

          more_context : IsContext Σe (onto (E ∷ es) C.some)
          more_context = grown_contexts Σ' Σe ts ks (onto (E ∷ es) C.some) c

          values_typed : IsTypedSubstitution Σe (onto es C.some) G θ
          values_typed i A g = grown_image Σ' Σe ts ks G (θ i) (substitute_type reduce θ A) (open_typed Σ' ok' o i A g)

          both_typed : IsTypedSubstitution Σe (onto es C.some) r.written.left (after r.written.values θ)
          both_typed = typed_after Σe ok (onto es C.some) G r.written.left θ r.written.values (more_context).0 r.written.source r.written.context values_typed r.written.typed

          image : ImageHasType Σe r.written.left (entry_value m C.some es E (after r.written.values θ)) (substitute_type reduce r.written.values (substitute_type reduce θ E))
          image = subst (ImageHasType Σe r.written.left (entry_value m C.some es E (after r.written.values θ))) (sym (substitutions_compose_type (family_skeletons Σe) (constant_skeletons Σe) (context_skeletons (onto es C.some)) (context_skeletons G) (context_skeletons r.written.left) θ r.written.values E (typed_substitution_by_skeletons Σe ok (onto es C.some) G θ values_typed) (typed_substitution_by_skeletons Σe ok G r.written.left r.written.values r.written.typed) (type_by_skeletons Σe (onto es C.some) E (more_context).1))) (entry_value_typed Σe ok m C.some es E r.written.left (after r.written.values θ) more_context r.written.context h both_typed (r.own_written m refl))

          each : (v : ℕ) (A : LfType) → TypeAt (T ∷ G) v A → IsChosenBefore (next_entry E o t) choice v ⊎ IsOwn (Some m) (E ∷ es) (lift θ) v ⊎ Stays (leave G T t r.written x image) v
          each zero A g = inr (inl (m, refl, [], E, es, refl, refl))
          each (suc v) A (X, g, e) = by (r.each v X g)
            where
              by : IsChosenBefore o (λ φ. choice (moved φ)) v ⊎ IsOwn (Some m) es θ v ⊎ Stays r.written v → IsChosenBefore (next_entry E o t) choice (suc v) ⊎ IsOwn (Some m) (E ∷ es) (lift θ) (suc v) ⊎ Stays (leave G T t r.written x image) (suc v)
              by (inl k) = inl (chosen_next v k)
              by (inr (inl k)) = inr (inl (own_next (Some m) v k))
              by (inr (inr (u, q, p))) = inr (inr (u, q, ap suc p))

      next : (own : Option ℕ) → ((n : ℕ) → own ≡ Some n → HaveTypes Σe n C.some (E ∷ es)) → OpenResult o (λ φ. choice (moved φ)) own → OpenResult (next_entry E o t) choice own
      next None h r = next_stays r
      next (Some m) h r = next_leaves m (h m refl) r

    -- A context of worlds
    mutual
      unfolding stay

      pub build : {G : List LfType} (w : World Σ' W S G) (choice : (ℕ → Image) → Option ℕ) → ((B : Block) (φ : ℕ → Image) → InstanceIn w B φ → (n : ℕ) → choice φ ≡ Some n → HaveTypes Σe n B.some B.entries) → Result w choice
      build no_variables choice h = record { written = nothing_left; each = λ v A g. absurd g; chosen = λ B φ i. absurd i }
      build (single_variable {G = G} {A = X} w t n) choice h = by (build w (λ φ. choice (moved φ)) (λ B φ i m q. h B (moved φ) (φ, i, refl) m q))
        where
          by : Result w (λ φ. choice (moved φ)) → Result (single_variable w t n) choice
          by r = record { written = stay G X t r.written; each = each; chosen = λ B φ (τ, i, e) m q. stays_written m B.some B.entries r.written.values φ τ e (r.chosen B τ i m (sym (ap choice e) ∙ q)) }
            where
              each : (v : ℕ) (A : LfType) → TypeAt (X ∷ G) v A → IsChosen (single_variable w t n) choice v ⊎ Stays (stay G X t r.written) v
              each zero A g = inr (stays_zero G X t r.written)
              each (suc v) A (Y, g, e) = on (r.each v Y g)
                where
                  on : IsChosen w (λ φ. choice (moved φ)) v ⊎ Stays r.written v → IsChosen (single_variable w t n) choice (suc v) ⊎ Stays (stay G X t r.written) (suc v)
                  on (inl (B, φ, i, m, q, later, D, ds, f, p)) = inl (B, moved φ, (φ, i, refl), m, q, later, D, ds, f, ap (rename_image suc) p)
                  on (inr k) = inr (stays_next G X t r.written v k)
      build (whole_instance {G = G} {es = es} {θ = θ} C m e o) choice h = by (build_open o choice (choice θ) (λ B φ i n q. h B φ (inr i) n q) (λ n q. subst (HaveTypes Σe n C.some) (sym e) (h C θ (inl (refl, refl)) n q)) (subst (λ ds. IsContext Σ' (onto ds C.some)) (sym e) (typed C m)))
        where
          by : OpenResult o choice (choice θ) → Result (whole_instance C m e o) choice
          by r = record { written = r.written; each = each; chosen = chosen }
            where
              each : (v : ℕ) (A : LfType) → TypeAt G v A → IsChosen (whole_instance C m e o) choice v ⊎ Stays r.written v
              each v A g = on (r.each v A g)
                where
                  on : IsChosenBefore o choice v ⊎ IsOwn (choice θ) es θ v ⊎ Stays r.written v → IsChosen (whole_instance C m e o) choice v ⊎ Stays r.written v
                  on (inl (B, φ, i, n, q, later, D, ds, f, p)) = inl (B, φ, inr i, n, q, later, D, ds, f, p)
                  on (inr (inl (n, q, later, D, ds, f, p))) = inl (C, θ, inl (refl, refl), n, q, later, D, ds, f ∙ e, p)
                  on (inr (inr k)) = inr k

              chosen : (B : Block) (φ : ℕ → Image) → InstanceIn (whole_instance C m e o) B φ → (n : ℕ) → choice φ ≡ Some n → AreWritten n B.some B.entries (after r.written.values φ)
              chosen B φ (inl (b, f)) n q = subst (λ (D : Block). AreWritten n D.some D.entries (after r.written.values φ)) (sym b) (subst (λ ψ. AreWritten n C.some C.entries (after r.written.values ψ)) (sym f) (subst (λ ds. AreWritten n C.some ds (after r.written.values θ)) e (r.own_written n (sym (ap choice f) ∙ q))))
              chosen B φ (inr i) n q = r.chosen B φ i n q

      build_open : {C : Block} {G es : List LfType} {τ : ℕ → Image} (o : OpenInstance Σ' W S C G es τ) (choice : (ℕ → Image) → Option ℕ) (own : Option ℕ) → ((B : Block) (φ : ℕ → Image) → InstanceBefore o B φ → (n : ℕ) → choice φ ≡ Some n → HaveTypes Σe n B.some B.entries) → ((n : ℕ) → own ≡ Some n → HaveTypes Σe n C.some es) → IsContext Σ' (onto es C.some) → OpenResult o choice own
      build_open (begin_instance {B = C} {G = G} {θ = θ} w v) choice own h ho c = by (build w choice (λ B φ i n q. h B φ i n q))
        where
          by : Result w choice → OpenResult {C = C} {G = G} {es = []} {τ = θ} (begin_instance w v) choice own
          by r = record { written = r.written; each = each; chosen = λ B φ i n q. r.chosen B φ i n q; own_written = λ n q i. refl }
            where
              each : (x : ℕ) (A : LfType) → TypeAt G x A → IsChosenBefore {C = C} {G = G} {es = []} {τ = θ} (begin_instance w v) choice x ⊎ IsOwn own [] θ x ⊎ Stays r.written x
              each x A g = on (r.each x A g)
                where
                  on : IsChosen w choice x ⊎ Stays r.written x → IsChosenBefore {C = C} {G = G} {es = []} {τ = θ} (begin_instance w v) choice x ⊎ IsOwn own [] θ x ⊎ Stays r.written x
                  on (inl k) = inl k
                  on (inr k) = inr (inr k)
      build_open (next_entry {B = C} {es = es} E o t) choice own h ho c = next E o t choice c own ho (build_open o (λ φ. choice (moved φ)) own (λ B φ i n q. h B (moved φ) (φ, i, refl) n q) (λ n q. types_before Σe n C.some E es (ho n q)) c.0)
      build_open (single_beside {B = C} {G = G} {es = es} {θ = θ} {A = X} o t z) choice own h ho c = by (build_open o (λ φ. choice (moved φ)) own (λ B φ i n q. h B (moved φ) (φ, i, refl) n q) ho c)
        where
          by : OpenResult o (λ φ. choice (moved φ)) own → OpenResult (single_beside o t z) choice own
          by r = record {
            written = stay G X t r.written;
            each = each;
            chosen = λ B φ (τ, i, e) n q. stays_written n B.some B.entries r.written.values φ τ e (r.chosen B τ i n (sym (ap choice e) ∙ q));
            own_written = λ n q. stays_written n C.some es r.written.values (moved θ) θ refl (r.own_written n q);
          }
            where
              each : (v : ℕ) (A : LfType) → TypeAt (X ∷ G) v A → IsChosenBefore (single_beside o t z) choice v ⊎ IsOwn own es (moved θ) v ⊎ Stays (stay G X t r.written) v
              each zero A g = inr (inr (stays_zero G X t r.written))
              each (suc v) A (Y, g, e) = on (r.each v Y g)
                where
                  on : IsChosenBefore o (λ φ. choice (moved φ)) v ⊎ IsOwn own es θ v ⊎ Stays r.written v → IsChosenBefore (single_beside o t z) choice (suc v) ⊎ IsOwn own es (moved θ) (suc v) ⊎ Stays (stay G X t r.written) (suc v)
                  on (inl (B, φ, i, n, q, later, D, ds, f, p)) = inl (B, moved φ, (φ, i, refl), n, q, later, D, ds, f, ap (rename_image suc) p)
                  on (inr (inl (n, q, later, D, ds, f, p))) = inr (inl (n, q, later, D, ds, f, ap (rename_image suc) p))
                  on (inr (inr k)) = inr (inr (stays_next G X t r.written v k))
