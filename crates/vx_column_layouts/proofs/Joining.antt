-- Outcomes are joined column by column.
use Rattle.std.proofs.Common.{◌≡◌, ◌⊎◌, eq-eqb, ℕ, zero, suc, ◌+◌, ◌<◌, Bool, true, false, List, [], ◌∷◌, ◌++◌, length, map, Option, Some, None, append_assoc, append-nil, inl, inr, ⊎_elim, refl, sym, ap, subst, ◌∙◌, arith}
use Rattle.std.specs.Prelude.{if◌then◌else◌, unwrap_or, Ok, Err, slice_get, ◌==◌}
use Rattle.std.specs.Global.{Vec}
use Rattle.std.proofs.lemmas.Bool.{cases_Bool, true≢false}
use Rattle.std.proofs.lemmas.List.{length_push}
use Rattle.vx_model.specs.Ty.{Ty, boolean, primitive, utf8, binary, list, struct, extension, fields_in}
use Rattle.vx_path.specs.declared.owned.Path.{Path}
use Rattle.vx_layout_spec.specs.LayoutTree.{LayoutData, renamed, struct_layout}
use Rattle.vx_layout_spec.specs.Refusal.{child_count}
use Rattle.vx_layout_tree.specs.LayoutView.{layout_data}
use Rattle.vx_layout_shape.specs.Shape.{struct_children}
use Rattle.vx_layout_tree.specs.Made.{Made, make_struct}
use Rattle.vx_layout_tree.specs.declared.layout.Layout.{Layout}
use Rattle.vx_plan.specs.PlanData.{Plan}
use Rattle.vx_order_answer.specs.declared.receipt.Receipt.{Receipt}
use Rattle.vx_column_plan.specs.Shared.{number_by}
use Rattle.vx_column_machine.specs.Causes.{IsDone}
use Rattle.vx_column_ways.specs.ColumnCount.{columns_of}
use Rattle.vx_write_answer.specs.declared.error.WriteError.{WriteError}
use Rattle.vx_write_answer.specs.declared.error.WriteError.TheVariants.{SourceFault, SinkFault, CompressFault, BatchType, NotStruct, DuplicateField, ManyChunks, EmptyList, ZoneCut, ForbiddenAggregate, ForbiddenEncoding, TooLarge, OutOfMemory, Stopped}
use Rattle.vx_column_layouts.specs.Numbers.{ColumnOutcome, AllDone, StandsIn, AllStandIn, AllOk, HasOwn, IsOwn, IsFirstOwn, IsLaid, is_stop, layouts_by}

-- ---- refusals

pub own_is : (e : WriteError) → is_stop e ≡ false → IsOwn e
own_is (Stopped by name) h = true≢false h
own_is SourceFault h = tt
own_is SinkFault h = tt
own_is CompressFault h = tt
own_is (BatchType b) h = tt
own_is NotStruct h = tt
own_is (DuplicateField name) h = tt
own_is ManyChunks h = tt
own_is EmptyList h = tt
own_is (ZoneCut n) h = tt
own_is (ForbiddenAggregate id) h = tt
own_is (ForbiddenEncoding id) h = tt
own_is (TooLarge n) h = tt
own_is OutOfMemory h = tt

pub own_alone : (e : WriteError) → IsOwn e → is_stop e ≡ false
own_alone (Stopped by name) h = absurd h
own_alone SourceFault h = refl
own_alone SinkFault h = refl
own_alone CompressFault h = refl
own_alone (BatchType b) h = refl
own_alone NotStruct h = refl
own_alone (DuplicateField name) h = refl
own_alone ManyChunks h = refl
own_alone EmptyList h = refl
own_alone (ZoneCut n) h = refl
own_alone (ForbiddenAggregate id) h = refl
own_alone (ForbiddenEncoding id) h = refl
own_alone (TooLarge n) h = refl
own_alone OutOfMemory h = refl

-- the first refusal that is no stop
abbrev first_own : List ColumnOutcome → Option WriteError
first_own [] = None
first_own (Ok r ∷ os) = first_own os
first_own (Err e ∷ os) = if is_stop e then first_own os else Some e

own_here : (e : WriteError) (os : List ColumnOutcome) → is_stop e ≡ false → first_own (Err e ∷ os) ≡ Some e
own_here e os h = ap (λ b. if b then first_own os else Some e) h

own_later : (e : WriteError) (os : List ColumnOutcome) → is_stop e ≡ true → first_own (Err e ∷ os) ≡ first_own os
own_later e os h = ap (λ b. if b then first_own os else Some e) h

one_error : (e f : WriteError) → Some e ≡ Some f → e ≡ f
one_error e f h = cc

same_error : (e f : WriteError) → ◌≡◌ {A = Option ColumnOutcome} (Some (Err e)) (Some (Err f)) → e ≡ f
same_error e f h = cc

no_refusal : (r : Layout × Vec Path) (f : WriteError) → ◌≡◌ {A = Option ColumnOutcome} (Some (Ok r)) (Some (Err f)) → ⊥
no_refusal r f h = cc

behind : (o : ColumnOutcome) (os : List ColumnOutcome) (e : WriteError) → ((other : WriteError) → o ≡ Err other → IsOwn other → ⊥) → IsFirstOwn os e → IsFirstOwn (o ∷ os) e
behind o os e none h = record { place = suc h.place; at = h.at; own = h.own; first = first }
  where
    first : (k : ℕ) (other : WriteError) → k < suc h.place → slice_get (o ∷ os) k ≡ Some (Err other) → IsOwn other → ⊥
    first zero other l s own = none other (got o (Err other) s) own
      where
        got : (a b : ColumnOutcome) → Some a ≡ Some b → a ≡ b
        got a b s = cc
    first (suc k) other l s own = h.first k other (omega (arith, l)) s own

first_is : (os : List ColumnOutcome) (e : WriteError) → first_own os ≡ Some e → IsFirstOwn os e
first_is [] e h = absurd (let f : None ≡ Some e = h in cc)
first_is (Ok r ∷ os) e h = behind (Ok r) os e (λ other s own. no_refusal r other (ap Some s)) (first_is os e h)
first_is (Err f ∷ os) e h = ⊎_elim
    (λ t. behind (Err f) os e (λ other s own. true≢false (sym t ∙ ap is_stop (same_error f other (ap Some s)) ∙ own_alone other own)) (first_is os e (sym (own_later f os t) ∙ h)))
    (λ n. record {
      place = 0;
      at = ap (λ z. Some (Err z)) (one_error f e (sym (own_here f os n) ∙ h));
      own = subst IsOwn (one_error f e (sym (own_here f os n) ∙ h)) (own_is f n);
      first = λ k other l s own. omega (arith, l);
    })
    (cases_Bool (is_stop f))

-- where there is none
none_own : (os : List ColumnOutcome) (k : ℕ) (e : WriteError) → first_own os ≡ None → slice_get os k ≡ Some (Err e) → IsOwn e → ⊥
none_own [] k e h s own = let f : None ≡ Some (Err e) = s in cc
none_own (Ok r ∷ os) zero e h s own = no_refusal r e s
none_own (Ok r ∷ os) (suc k) e h s own = none_own os k e h s own
none_own (Err f ∷ os) zero e h s own =
    let n : is_stop f ≡ false = ap is_stop (same_error f e s) ∙ own_alone e own in
    let g : None ≡ Some f = sym h ∙ own_here f os n in cc
none_own (Err f ∷ os) (suc k) e h s own = ⊎_elim
    (λ t. none_own os k e (sym (own_later f os t) ∙ h) s own)
    (λ n. let g : None ≡ Some f = sym h ∙ own_here f os n in cc)
    (cases_Bool (is_stop f))

all_ok : (os : List ColumnOutcome) → first_own os ≡ None → AllOk os ⊎ HasOwn os → AllOk os
all_ok os h o = ⊎_elim (λ a. a) (λ b. absurd (none_own os b.0 b.1 h b.2 b.3)) o

-- ---- layouts

-- Of all outcomes these are left; the others' layouts are numbered.
record Numbered (number : List ℕ → ℕ) (rs : List Receipt) (ps : List Plan) (layouts : List (LayoutData ℕ)) (rest : List ColumnOutcome) : Type 0 where
  pub plans : List Plan
  pub done : AllDone plans rest
  pub stand : AllStandIn rs plans
  pub laid : layouts ++ layouts_by number plans ≡ layouts_by number ps

none_numbered : (number : List ℕ → ℕ) (rs : List Receipt) (ps : List Plan) (os : List ColumnOutcome) → AllDone ps os → AllStandIn rs ps → Numbered number rs ps [] os
none_numbered number rs ps os d s = record { plans = ps; done = d; stand = s; laid = refl }

-- the next column's layout is numbered
one_numbered : (number : List ℕ → ℕ) (rs : List Receipt) (ps : List Plan) (layouts : List (LayoutData ℕ)) (r : Layout × Vec Path) (rest : List ColumnOutcome) (l : LayoutData ℕ)
    → ((p : Plan) → IsDone p (layout_data r.0) r.1.items → StandsIn rs p → l ≡ renamed number p.layout) → Numbered number rs ps layouts (Ok r ∷ rest) → Numbered number rs ps (layouts ++ (l ∷ [])) rest
one_numbered number rs ps layouts r rest l is h = by h.plans h.done h.stand h.laid
  where
    by : (plans : List Plan) → AllDone plans (Ok r ∷ rest) → AllStandIn rs plans → layouts ++ layouts_by number plans ≡ layouts_by number ps → Numbered number rs ps (layouts ++ (l ∷ [])) rest
    by [] d s e = absurd d
    by (q ∷ plans) d s e = record {
      plans = plans;
      done = d.1;
      stand = s.1;
      laid = append_assoc layouts (l ∷ []) (layouts_by number plans) ∙ ap (λ z. layouts ++ (z ∷ layouts_by number plans)) (is q d.0 s.0) ∙ e;
    }

-- a column that was stopped has none
none_done : (number : List ℕ → ℕ) (rs : List Receipt) (ps : List Plan) (layouts : List (LayoutData ℕ)) (e : WriteError) (rest : List ColumnOutcome) → Numbered number rs ps layouts (Err e ∷ rest) → ⊥
none_done number rs ps layouts e rest h = by h.plans h.done
  where
    by : (plans : List Plan) → AllDone plans (Err e ∷ rest) → ⊥
    by [] d = d
    by (q ∷ plans) d = d

all_numbered : (number : List ℕ → ℕ) (rs : List Receipt) (ps : List Plan) (layouts : List (LayoutData ℕ)) → Numbered number rs ps layouts [] → layouts ≡ layouts_by number ps
all_numbered number rs ps layouts h = by h.plans h.done h.laid
  where
    by : (plans : List Plan) → AllDone plans [] → layouts ++ layouts_by number plans ≡ layouts_by number ps → layouts ≡ layouts_by number ps
    by [] d e = sym (append-nil layouts) ∙ e
    by (q ∷ plans) d e = absurd d

-- ---- outcomes, one after the other

-- of all outcomes these are left, and the others have these layouts
pub record SoFar (rs : List Receipt) (all rest : List ColumnOutcome) (layouts : List (LayoutData ℕ)) : Type 0 where
  own : first_own all ≡ first_own rest
  ok : AllOk all → AllOk rest
  count : AllOk all → length layouts + length rest ≡ length all
  laid : (first : ℕ) (ps : List Plan) → AllDone ps all → AllStandIn rs ps → Numbered (number_by first rs) rs ps layouts rest

pub so_far_none : (rs : List Receipt) (all : List ColumnOutcome) → SoFar rs all all []
so_far_none rs all = record { own = refl; ok = λ a. a; count = λ a. omega arith; laid = λ first ps d s. none_numbered (number_by first rs) rs ps all d s }

laid_one : (rs : List Receipt) (all rest : List ColumnOutcome) (o : ColumnOutcome) (layouts : List (LayoutData ℕ)) (l : Layout) → IsLaid rs o (Some l) → SoFar rs all (o ∷ rest) layouts → SoFar rs all rest (layouts ++ (layout_data l ∷ []))
laid_one rs all rest (Err e) layouts l is h = absurd is
laid_one rs all rest (Ok r) layouts l is h = record {
  own = h.own;
  ok = λ a. h.ok a;
  count = λ a. let n : length layouts + suc (length rest) ≡ length all = h.count a in let m : length (layouts ++ (layout_data l ∷ [])) ≡ length layouts + 1 = length_push layouts (layout_data l) in omega (arith, n, m);
  laid = λ first ps d s. one_numbered (number_by first rs) rs ps layouts r rest (layout_data l) (is first) (h.laid first ps d s);
}

stopped_one : (rs : List Receipt) (all rest : List ColumnOutcome) (o : ColumnOutcome) (layouts : List (LayoutData ℕ)) → IsLaid rs o None → SoFar rs all (o ∷ rest) layouts → SoFar rs all rest layouts
stopped_one rs all rest (Ok r) layouts is h = absurd is
stopped_one rs all rest (Err e) layouts is h = record {
  own = h.own ∙ own_later e rest is;
  ok = λ a. absurd (h.ok a);
  count = λ a. absurd (h.ok a);
  laid = λ first ps d s. absurd (none_done (number_by first rs) rs ps layouts e rest (h.laid first ps d s));
}

module _ (rs : List Receipt) (all rest left : List ColumnOutcome) (o : ColumnOutcome) (layouts : List (LayoutData ℕ)) (h : SoFar rs all rest layouts) (is : rest ≡ o ∷ left) where
  here : SoFar rs all (o ∷ left) layouts
  here = subst (λ os. SoFar rs all os layouts) is h

  pub so_far_laid : (l : Layout) → IsLaid rs o (Some l) → SoFar rs all left (layouts ++ (layout_data l ∷ []))
  so_far_laid l x = laid_one rs all left o layouts l x here

  pub so_far_stopped : IsLaid rs o None → SoFar rs all left layouts
  so_far_stopped x = stopped_one rs all left o layouts x here

  pub so_far_refused : (e : WriteError) → (e ≡ OutOfMemory) ⊎ ((o ≡ Err e) × (is_stop e ≡ false)) → (e ≡ OutOfMemory) ⊎ IsFirstOwn all e
  so_far_refused e x =
      ⊎_elim (λ m. inl m) (λ y. inr (first_is all e (here.own ∙ ap (λ z. first_own (z ∷ left)) y.0 ∙ own_here e left y.1))) x

-- none is left
module _ (rs : List Receipt) (all rest : List ColumnOutcome) (layouts : List (LayoutData ℕ)) (h : SoFar rs all rest layouts) (none : length rest ≡ 0) (own : AllOk all ⊎ HasOwn all) where
  ended : SoFar rs all [] layouts
  ended = subst (λ os. SoFar rs all os layouts) (no_more rest none) h
    where
      no_more : (os : List ColumnOutcome) → length os ≡ 0 → os ≡ []
      no_more [] e = refl
      no_more (o ∷ os) e = absurd (omega (arith, e))

  pub ended_ok : AllOk all
  ended_ok = all_ok all ended.own own

  pub ended_count : length layouts ≡ length all
  ended_count = let n : length layouts + 0 ≡ length all = ended.count ended_ok in omega (arith, n)

  pub ended_laid : (first : ℕ) (ps : List Plan) → AllDone ps all → AllStandIn rs ps → layouts ≡ layouts_by (number_by first rs) ps
  ended_laid first ps d s = all_numbered (number_by first rs) rs ps layouts (ended.laid first ps d s)

-- ---- the struct's layout

none_some : (k : ℕ) → None ≡ Some k → ⊥
none_some k e = cc

is_count : (n k : ℕ) → Some n ≡ Some k → n ≡ k
is_count n k e = ap (λ o. unwrap_or o n) e

children_counted : (t : Ty) (n : ℕ) → columns_of t ≡ Some n → struct_children t ≡ n
children_counted (struct fs true) n h = is_count (length (fields_in fs) + 1) n h
children_counted (struct fs false) n h = let e : length (fields_in fs) ≡ n = is_count (length (fields_in fs)) n h in omega (arith, e)
children_counted (boolean m) n h = absurd (none_some n h)
children_counted (primitive p m) n h = absurd (none_some n h)
children_counted (utf8 m) n h = absurd (none_some n h)
children_counted (binary m) n h = absurd (none_some n h)
children_counted (list t m) n h = absurd (none_some n h)
children_counted (extension tag t) n h = absurd (none_some n h)

-- as many layouts as the type has columns
made : (t : Ty) (rows n : ℕ) (ls : List (LayoutData ℕ)) → columns_of t ≡ Some n → length ls ≡ n → make_struct t rows ls ≡ Ok (struct_layout t rows ls)
made (struct fs m) rows n ls h e =
    ap (λ b. if b then Ok (struct_layout (struct fs m) rows ls) else Err (child_count (length ls) (struct_children (struct fs m))))
    (eq-eqb (length ls) (struct_children (struct fs m)) (e ∙ sym (children_counted (struct fs m) n h)))
made (boolean m) rows n ls h e = absurd (none_some n h)
made (primitive p m) rows n ls h e = absurd (none_some n h)
made (utf8 m) rows n ls h e = absurd (none_some n h)
made (binary m) rows n ls h e = absurd (none_some n h)
made (list t m) rows n ls h e = absurd (none_some n h)
made (extension tag t) rows n ls h e = absurd (none_some n h)

pub laid_by : (t : Ty) (rows n : ℕ) (ls : List (LayoutData ℕ)) (l : LayoutData ℕ) → columns_of t ≡ Some n → length ls ≡ n → make_struct t rows ls ≡ Ok l → l ≡ struct_layout t rows ls
laid_by t rows n ls l h e is = same l (struct_layout t rows ls) (sym is ∙ made t rows n ls h e)
  where
    same : (a b : LayoutData ℕ) → ◌≡◌ {A = Made} (Ok a) (Ok b) → a ≡ b
    same a b e = cc
