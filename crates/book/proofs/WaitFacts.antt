-- One face more among those that wait.
use Rattle.std.proofs.Common.{◌≡◌, ℕ, ◌+◌, ◌<◌, ◌≤◌, Bool, true, false, cond, not, ◌||◌, T, nat_lt, nat_le, List, [], ◌∷◌, ◌++◌, map, length, is_some, Some, None, Option, unwrap_or, sym, refl, ap, ◌∙◌, subst, ⊎_elim, arith}
use Rattle.std.proofs.lemmas.Bool.{leb-true, leb-false, lt-leb, lt-ltb, le-ltb, cases_Bool}
use Rattle.elements.specs.declared.corner.VertexIndices.{VertexIndices}
use Rattle.elements.specs.declared.corner.Face.{Face}
use Rattle.elements.specs.declared.error.LoadError.{LoadError}
use Rattle.elements.specs.declared.error.LoadError.TheVariants.{NotAscii, FaceParseError, BookFull}
use Rattle.elements.specs.declared.row.Row.{Row}
use Rattle.elements.specs.declared.waiting.Waiting.{Waiting}
use Rattle.elements.specs.Checks.{first}
use Rattle.elements.specs.Contents.{faces_of}
use Rattle.elements.specs.Rows.{items, room, Pushed}
use Rattle.elements.specs.Tiles.{part, tiles}
use Rattle.elements.proofs.TileFacts.{tiles_push, corners-waiting, faces-waiting, faces-more}
use Rattle.reading.specs.declared.counts.Counts.{Counts}
use Rattle.reading.specs.Ascii.{ascii}
use Rattle.reading.specs.Face.{face, appended}
use Rattle.reading.proofs.AsciiLaws.{only_ascii}
use Rattle.book.specs.Rules.{all_corners, wait_checks}
use Rattle.book.specs.Waits.{Extended}

-- what was appended was there and fitted
pub record Fitted {X : Type 0} (o : Option (List X)) (start room k : ℕ) : Type 0 where
  pub xs : List X
  pub is : o ≡ Some xs
  pub count : k ≡ length xs
  pub fits : start + length xs ≤ room

pub fitted : {X : Type 0} (o : Option (List X)) (start room k : ℕ) → Some k ≡ appended o start room → Fitted o start room k
fitted None start room k h = cc
fitted (Some xs) start room k h = go (nat_le (start + length xs) room) refl
  where
    go : (b : Bool) → nat_le (start + length xs) room ≡ b → Fitted (Some xs) start room k
    go true e =
        let s : Some k ≡ Some (length xs) = h ∙ ap (λ v. cond v (Some (length xs)) None) e in
        record { xs = xs; is = refl; count = cc; fits = leb-true (start + length xs) room e }
    go false e =
        let s : Some k ≡ None = h ∙ ap (λ v. cond v (Some (length xs)) None) e in
        cc

-- the checks of a face for which there is no cell
abbrev full-checks : Option (List VertexIndices) → List ℕ → List (Bool × LoadError)
full-checks o text = (not (ascii text), NotAscii) ∷ (not (is_some o), FaceParseError) ∷ (true, BookFull) ∷ []

or_right : (a b : Bool) → b ≡ true → (a || b) ≡ true
or_right true b e = refl
or_right false b e = e

or_none : (a b : Bool) → a ≡ false → b ≡ false → (a || b) ≡ false
or_none a b e f = ap (λ v. v || b) e ∙ f

module _ (w : Waiting) (o : Option (List VertexIndices)) (text : List ℕ) where
  abbrev here : List (Bool × LoadError)
  here = wait_checks (room w.corners) (room w.faces) (faces_of w) o text

  abbrev lacking : Bool
  lacking = nat_le (room w.faces) (length (faces_of w)) || nat_lt (room w.corners) (length (all_corners (faces_of w)) + length (unwrap_or o []))

  full_is : lacking ≡ true → first here ≡ first (full-checks o text)
  full_is e = ap (λ b. first ((not (ascii text), NotAscii) ∷ (not (is_some o), FaceParseError) ∷ (b, BookFull) ∷ [])) e

-- no corners, or no cells for them
pub no_corners : (w : Waiting) (o : Option (List VertexIndices)) (text : List ℕ) → false ≡ is_some (appended o w.corners.count (room w.corners))
    → first (wait_checks (room w.corners) (room w.faces) (faces_of w) o text) ≡ first (full-checks o text)
no_corners w None text h = refl
no_corners w (Some xs) text h = go (nat_le (w.corners.count + length xs) (room w.corners)) refl
  where
    go : (b : Bool) → nat_le (w.corners.count + length xs) (room w.corners) ≡ b
        → first (wait_checks (room w.corners) (room w.faces) (faces_of w) (Some xs) text) ≡ first (full-checks (Some xs) text)
    go true e =
        let s : false ≡ true = h ∙ ap (λ v. is_some (cond v (Some (length xs)) None)) e in
        cc
    go false e =
        let n = corners-waiting w in
        let l = leb-false (w.corners.count + length xs) (room w.corners) e in
        full_is w (Some xs) text (or_right _ _ (lt-ltb (room w.corners) (length (all_corners (faces_of w)) + length xs) (omega arith)))

-- a text that reads, with cells for all
pub no_obstacle : (w : Waiting) (n : Counts) (text : List ℕ) (k : ℕ) → w.faces.count < room w.faces → Some k ≡ appended (face n text) w.corners.count (room w.corners)
    → None ≡ first (wait_checks (room w.corners) (room w.faces) (faces_of w) (face n text) text)
no_obstacle w n text k lf e =
    let f = fitted (face n text) w.corners.count (room w.corners) k e in
    let fits = f.fits in
    let nf = faces-waiting w in
    let nc = corners-waiting w in
    let a : ascii text ≡ true = ⊎_elim (λ y. y) (λ z. (let q : ◌≡◌ {A = Option (List VertexIndices)} (Some f.xs) None = sym f.is ∙ only_ascii n text z in cc)) (cases_Bool (ascii text)) in
    let third : (nat_le (room w.faces) (length (faces_of w)) || nat_lt (room w.corners) (length (all_corners (faces_of w)) + length f.xs)) ≡ false =
    or_none _ _ (lt-leb (room w.faces) (length (faces_of w)) (omega arith)) (le-ltb (room w.corners) (length (all_corners (faces_of w)) + length f.xs) (omega arith)) in
    let P : Option (List VertexIndices) → Type 0 = λ o. None ≡ first (wait_checks (room w.corners) (room w.faces) (faces_of w) o text) in
    subst P (sym f.is)
    (sym (ap (λ b. first ((not b, NotAscii) ∷ (not (is_some (Some f.xs)), FaceParseError) ∷ (nat_le (room w.faces) (length (faces_of w)) || nat_lt (room w.corners) (length (all_corners (faces_of w)) + length f.xs), BookFull) ∷ [])) a
    ∙ ap (λ b. first ((b, BookFull) ∷ [])) third))

-- corners and a face over them, after the others
module _ (w : Waiting) (cs : Row VertexIndices) (fs : Row Face) (o : Option (List VertexIndices)) (k : ℕ) (e : Some k ≡ appended o w.corners.count (room w.corners))
    (ec : (xs : List VertexIndices) → o ≡ Some xs → w.corners.count + length xs ≤ room w.corners → Extended w.corners cs xs)
    (ef : Pushed w.faces fs (record { start = w.corners.count; count = k })) where
  abbrev fit : Fitted o w.corners.count (room w.corners) k
  fit = fitted o w.corners.count (room w.corners) k e

  abbrev more : Extended w.corners cs fit.xs
  more = ec fit.xs fit.is fit.fits

  face_is : items fs ≡ items w.faces ++ (record { start = w.corners.count; count = length fit.xs }) ∷ []
  face_is =
      let P : ℕ → List Face = λ i. items w.faces ++ (record { start = w.corners.count; count = i }) ∷ [] in
      ef.items ∙ ap P fit.count

  pub faces_added : map (part (items cs)) (items fs) ≡ faces_of w ++ unwrap_or o [] ∷ []
  faces_added = faces-more w (items cs) (items fs) fit.xs more.items face_is ∙ ap (λ p. faces_of w ++ unwrap_or p [] ∷ []) (sym fit.is)

  pub tiles_added : T (tiles 0 (items fs) cs.count)
  tiles_added =
      let Q : List Face → ℕ → Type 0 = λ gs m. T (tiles 0 gs m) in
      subst (λ m. Q (items fs) m) (sym more.count)
      (subst (λ gs. Q gs (w.corners.count + length fit.xs)) (sym face_is) (tiles_push (items w.faces) 0 w.corners.count (length fit.xs) w.tiled))

-- what the proof of `wait` stands on
pub ruleset waits = (no_corners, no_obstacle, faces_added, tiles_added)
