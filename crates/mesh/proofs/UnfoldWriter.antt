-- A writer's calls, one after the other.
use Rattle.std.proofs.Common.{◌≡◌, List, [], ◌++◌, Ok, Err, Result, sym, refl, ◌∙◌, subst}
use Rattle.std.proofs.lemmas.List.{append-nil, append_assoc}
use Rattle.elements.specs.declared.error.LoadError.{LoadError}
use Rattle.elements.specs.declared.options.LoadOptions.{LoadOptions}
use Rattle.elements.specs.Contents.{Sources, sources}
use Rattle.mesh.specs.declared.unfold.Writer.{Writer}
use Rattle.mesh.specs.Unfold.{Event}
use Rattle.mesh.specs.declared.numbering.Numbering.{Ghosts}
use Rattle.mesh.specs.Writing.{Writing}
use Rattle.mesh.specs.Writes.{Writes}
use Rattle.mesh.proofs.UnfoldFacts.{writing_then, writing_ok, writing_stop, writing_none}

module _ {N : Type 0} {T : Ghosts N} where
  pub writes_as : {X : Type 0} {r : Result X LoadError} {fs gs : List Event} {w w' : Writer N} → fs ≡ gs → Writes T fs w w' r → Writes T gs w w' r
  writes_as {r} {w} {w'} e a = subst (λ xs. Writes T xs w w' r) e a

  -- what a `?` returns
  pub writes_err : {X : Type 0} {r : Result X LoadError} {fs : List Event} {w w' : Writer N} {e : LoadError}
      → (x : LoadError) × (r ≡ Err x) × (x ≡ e) → Writes T {X = X} fs w w' (Err e) → Writes T fs w w' r
  writes_err p a = rw (p.1, p.2) a

  pub writes_then : {X Y : Type 0} {x : X} {r : Result Y LoadError} {fs gs : List Event} {u v w : Writer N}
      → Writes T fs u v (Ok x) → Writes T gs v w r → Writes T (fs ++ gs) u w r
  writes_then {r} {gs} {u} {v} {w} a b =
      let Goes : LoadOptions → Sources → Type 0 = λ o s. Writing o s gs v.lists.now w.lists.now (T.stock v.tables.now) (T.stock w.tables.now) (T.sound v.tables.now) (T.sound w.tables.now) r in
      record {
        options = b.options ∙ a.options;
        attributes = b.attributes ∙ a.attributes;
        lists = b.lists ∙ a.lists;
        tables = b.tables ∙ a.tables;
        writing = writing_then r a.writing
            (subst (λ o. Goes o (sources u.attributes.now)) a.options (subst (λ s. Goes v.options (sources s)) a.attributes b.writing));
      }

  pub writes_ok : {X Y : Type 0} {x : X} (y : Y) {fs : List Event} {w w' : Writer N} → Writes T fs w w' (Ok x) → Writes T fs w w' (Ok y)
  writes_ok y a =
      record { options = a.options; attributes = a.attributes; lists = a.lists; tables = a.tables; writing = writing_ok y a.writing }

  -- a refusal stays the first, whatever was to come after it
  pub writes_stop : {X Y : Type 0} {e : LoadError} {fs : List Event} (gs : List Event) {w w' : Writer N} → Writes T {X = X} fs w w' (Err e) → Writes T {X = Y} (fs ++ gs) w w' (Err e)
  writes_stop {e} gs a =
      record { options = a.options; attributes = a.attributes; lists = a.lists; tables = a.tables; writing = writing_stop e gs a.writing }

-- some of the events `all` were written, and `rest` is to come
pub record Midway {N : Type 0} (T : Ghosts N) (all rest : List Event) (w w' : Writer N) : Type 0 where
  pub done : List Event
  pub split : done ++ rest ≡ all
  pub writes : Writes T {X = Unit {0}} done w w' (Ok tt)

module _ {N : Type 0} {T : Ghosts N} {all : List Event} where
  pub midway_none : {w : Writer N} → Midway T all all w w
  midway_none =
      record { done = []; split = refl; writes = record { options = refl; attributes = refl; lists = refl; tables = refl; writing = writing_none tt } }

  module _ {rest : List Event} {u v : Writer N} (m : Midway T all rest u v) where
    pub midway_all : {X : Type 0} (x : X) → rest ≡ [] → Writes T all u v (Ok x)
    midway_all x e = writes_as (sym (append-nil m.done) ∙ subst (λ xs. m.done ++ xs ≡ all) e m.split) (writes_ok x m.writes)

    joined : (gs rest' : List Event) → rest ≡ gs ++ rest' → (m.done ++ gs) ++ rest' ≡ all
    joined gs rest' e = append_assoc m.done gs rest' ∙ subst (λ xs. m.done ++ xs ≡ all) e m.split

    pub midway_more : {gs rest' : List Event} {w : Writer N} {X : Type 0} {x : X} → rest ≡ gs ++ rest' → Writes T gs v w (Ok x) → Midway T all rest' u w
    midway_more {gs} {rest'} e a = record { done = m.done ++ gs; split = joined gs rest' e; writes = writes_ok tt (writes_then m.writes a) }

    pub midway_stop : {gs : List Event} (rest' : List Event) {w : Writer N} {X Y : Type 0} {d : LoadError} → rest ≡ gs ++ rest' → Writes T {X = X} gs v w (Err d) → Writes T {X = Y} all u w (Err d)
    midway_stop {gs} rest' e a = writes_as (joined gs rest' e) (writes_stop rest' (writes_then m.writes a))

    -- events that were none
    pub midway_same : {rest' : List Event} → rest ≡ rest' → Midway T all rest' u v
    midway_same e = subst (λ xs. Midway T all xs u v) e m
