-- What writing events into a mesh does to its lists and to the tables, said from any events that the mesh was made of before.
--   Stock        what the tables hold, and what they have room for
--   Drawn        the mesh m, with the keys ks, is that of the events es
--   Wrote        the events fs were written after those, and none of them met an obstacle
--   Stopped      some of the events fs meets an obstacle after those, and the first brings the refusal e
--   Kept         what no writing changes
--   Writing      what a call did that was to write the events fs and answered r
--   Merging      what a call did that was to merge a mesh and answered r
use Rattle.std.specs.Prelude.{◌≡◌, ℕ, List, [], ◌++◌, Some, None, Result, MatchResult, OnOk}
use Rattle.elements.specs.declared.options.LoadOptions.{LoadOptions}
use Rattle.elements.specs.declared.error.LoadError.{LoadError}
use Rattle.elements.specs.Checks.{first, refusal}
use Rattle.elements.specs.Contents.{Sources}
use Rattle.mesh.specs.declared.lists.Lists.{Lists}
use Rattle.mesh.specs.Unfold.{Event, corners_of, arities_of}
use Rattle.mesh.specs.Surface.{Surface, Rooms, Capacities}
use Rattle.mesh.specs.Lists.{surface, rooms, Blank}
use Rattle.mesh.specs.Numbering.{Keys}
use Rattle.mesh.specs.Merging.{merged, merge_checks}
use Rattle.mesh.specs.Merges.{Mergeable}
use Rattle.mesh.specs.Rules.{checks_after}
use Rattle.mesh.specs.Steps.{DrawnOf}

-- four tables by reference, and two by bits
pub record Stock : Type 0 where
  pub keys : Keys
  pub points : List (List ℕ)
  pub pairs : List (List ℕ)
  pub capacities : Capacities

abbrev pub no_keys : Keys
no_keys = record { corners = []; positions = []; textures = []; normals = [] }

-- tables without keys
abbrev pub empty_stock : Capacities → Stock
empty_stock n = record { keys = no_keys; points = []; pairs = []; capacities = n }

module _ (o : LoadOptions) (s : Sources) where
  abbrev pub Drawn : List Event → Surface → Keys → Type 0
  Drawn es m ks = DrawnOf o s (arities_of es) (corners_of es) m ks

  module _ (rs : Rooms) (n : Capacities) (fs : List Event) (m : Surface) (ks : Keys) where
    abbrev pub Wrote : Surface → Keys → Type 0
    Wrote m' ks' = (es : List Event) → Drawn es m ks → (first (checks_after o s rs n es fs) ≡ None) × Drawn (es ++ fs) m' ks'

    abbrev pub Stopped : LoadError → Type 0
    Stopped e = (es : List Event) → Drawn es m ks → first (checks_after o s rs n es fs) ≡ Some e

-- the lists l became l', the tables' stock t became t', and S says of the tables before, S' of those after, that they are sound
pub record Kept (l l' : Lists) (t t' : Stock) (S S' : Type 0) : Type 0 where
  pub rooms : rooms l' ≡ rooms l
  pub remap : l'.remap ≡ l.remap
  pub blank : Blank l → Blank l'
  pub capacities : t'.capacities ≡ t.capacities
  pub points : t'.points ≡ t.points
  pub pairs : t'.pairs ≡ t.pairs
  pub sound : S → S'

module _ (o : LoadOptions) (s : Sources) (fs : List Event) (l l' : Lists) (t t' : Stock) (S S' : Type 0) where
  pub record Writing {X : Type 0} (r : Result X LoadError) : Type 0 where
    pub kept : Kept l l' t t' S S'
    pub writes : S → MatchResult r
        (λ _. Wrote o s (rooms l) t.capacities fs (surface l) t.keys (surface l') t'.keys)
        (Stopped o s (rooms l) t.capacities fs (surface l) t.keys)

pub record Merging {X : Type 0} (l l' : Lists) (t t' : Stock) (S S' : Type 0) (r : Result X LoadError) : Type 0 where
  pub refused : refusal r ≡ first (merge_checks (rooms l) t.capacities (surface l))
  pub granted : Mergeable (surface l) → OnOk r (surface l' ≡ merged (surface l))
  pub rooms : rooms l' ≡ rooms l
  pub remap : l'.remap.count ≡ 0
  pub blank : Blank l → Blank l'
  pub keys : t'.keys ≡ t.keys
  pub none : (t'.points ≡ []) × (t'.pairs ≡ [])
  pub capacities : t'.capacities ≡ t.capacities
  pub sound : S → S'
