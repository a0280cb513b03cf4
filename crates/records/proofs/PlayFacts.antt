-- One record more of a tape.
use Rattle.std.proofs.Common.{◌≡◌, ℕ, ◌+◌, ◌/◌, ◌<◌, ◌≤◌, cond, List, [], ◌∷◌, ◌++◌, length, take, drop, set, sym, refl, ap, ◌∙◌, subst, inl, inr, arith}
use Rattle.std.proofs.lemmas.List.{append-nil, append_assoc, length_push, take_more_set, length-take-le, drop-set-lt, drop-drop, nil_from_length}
use Rattle.std.proofs.lemmas.Bool.{le-ltb}
use Rattle.elements.specs.Contents.{Contents}
use Rattle.mesh.specs.Surface.{Rooms, Capacities}
use Rattle.book.specs.Obeyed.{Untouched}
use Rattle.book.specs.Requests.{Request, add_position, add_colour, add_texture, add_normal, add_face, write_mesh, BookRooms}
use Rattle.book.specs.Rules.{CallAnswer, Does, Left}
use Rattle.book.specs.History.{Past, more, Reaches, asks, answers_of, meshes_of}
use Rattle.book.proofs.HistoryFacts.{history}
use Rattle.records.specs.declared.record.Record.{Record}
use Rattle.records.specs.declared.record.Record.TheVariants.{Position, Colour, Texture, Normal, Face, Export}
use Rattle.records.specs.declared.line.Line.{Line}
use Rattle.records.specs.Layout.{word_at, head, kind_of, size, Stands}
use Rattle.records.specs.Playing.{heard, Asks, kind_number, line_of, bad_line, Recorded, report, Unreadable, Ended, after_request, last_left, Played}

-- ---- the kind of a record

kind_at : (bs : List ℕ) (k low : ℕ) → 4 ≤ length bs → low < 268435456 → word_at bs 0 ≡ head k low → kind_of bs ≡ k
kind_at bs k low l m e =
    let w = word_at bs 0 in
    let d : w / 268435456 ≡ k = omega arith in
    ap (λ b. cond b 0 (w / 268435456)) (le-ltb (length bs) 4 l) ∙ d

kind_stands : (ms : Rooms) (ts : Capacities) (bs : List ℕ) (r : Record) → Stands bs r → kind_of bs ≡ kind_number (heard ms ts bs r)
kind_stands ms ts bs (Position x y z) a = let s = a.0 in kind_at bs 1 0 (omega arith) (omega arith) a.1.0
kind_stands ms ts bs (Colour x y z) a = let s = a.0 in kind_at bs 2 0 (omega arith) (omega arith) a.1.0
kind_stands ms ts bs (Texture u v) a = let s = a.0 in kind_at bs 3 0 (omega arith) (omega arith) a.1.0
kind_stands ms ts bs (Normal x y z) a = let s = a.0 in kind_at bs 4 0 (omega arith) (omega arith) a.1.0
kind_stands ms ts bs (Face n) a = let s = a.0 in let m = a.1.1 in kind_at bs 5 n (omega arith) (omega arith) a.1.0
kind_stands ms ts bs (Export n) a = let s = a.0 in let m = a.1.1 in kind_at bs 6 n (omega arith) (omega arith) a.1.0

-- ---- lists of records

recorded_more : (ms : Rooms) (ts : Capacities) (tape : List ℕ) (qs : List Request) (rest : List ℕ) (r : Record) (q : Request)
    → Recorded ms ts tape qs rest → Asks ms ts rest r q → Recorded ms ts tape (qs ++ q ∷ []) (drop (size r) rest)
recorded_more ms ts tape [] rest r q e a = (r, subst (λ bs. Asks ms ts bs r q) e a, ap (drop (size r)) e)
recorded_more ms ts tape (p ∷ qs) rest r q h a = (h.0, h.1, recorded_more ms ts (drop (size h.0) tape) qs rest r q h.2 a)

report-more : (qs : List Request) (answers : List CallAnswer) (meshes : List Left) (q : Request) (a : CallAnswer) (m : Left) → length qs ≡ length answers → length qs ≡ length meshes
    → report (qs ++ q ∷ []) (answers ++ a ∷ []) (meshes ++ m ∷ []) ≡ report qs answers meshes ++ line_of (kind_number q) a m ∷ []
report-more [] [] [] q a m e f = refl
report-more [] [] (n ∷ ns) q a m e f = absurd (omega arith)
report-more [] (b ∷ bs) ns q a m e f = absurd (omega arith)
report-more (p ∷ qs) [] ns q a m e f = absurd (omega arith)
report-more (p ∷ qs) (b ∷ bs) [] q a m e f = absurd (omega arith)
report-more (p ∷ qs) (b ∷ bs) (n ∷ ns) q a m e f = ap (λ ls. line_of (kind_number p) b n ∷ ls) (report-more qs bs ns q a m (omega arith) (omega arith))

-- what is left in memory after one request more
left_after : (q : Request) (m n : Left) → Untouched q m n → after_request q m n ≡ n
left_after (add_position x y z) m n e = sym e
left_after (add_colour x y z) m n e = sym e
left_after (add_texture u v) m n e = sym e
left_after (add_normal x y z) m n e = sym e
left_after (add_face text) m n e = sym e
left_after (write_mesh o material ms ts) m n e = refl

-- ---- in the midst of playing: the requests so far stand before the rest, and each has its line

pub record Going (rs : BookRooms) (ms : Rooms) (ts : Capacities) (p : Past) (m : Left) (tape rest : List ℕ) (written : List Line) (c : Contents) (n : Left) : Type 0 where
  pub requests : List Request
  pub answers : List CallAnswer
  pub meshes : List Left
  pub paired : length requests ≡ length answers
  pub paired_meshes : length requests ≡ length meshes
  pub recorded : Recorded ms ts tape requests rest
  pub past : Past
  pub asked : asks past ≡ asks p ++ requests
  pub answered : answers_of past ≡ answers_of p ++ answers
  pub left : meshes_of past ≡ meshes_of p ++ meshes
  pub reached : Reaches rs past c
  pub held : (before : Left) → last_left before p ≡ m → last_left before past ≡ n
  pub written_is : written ≡ report requests answers meshes

pub going_none : (rs : BookRooms) (ms : Rooms) (ts : Capacities) (p : Past) (m : Left) (tape : List ℕ) (c : Contents) → Reaches rs p c → Going rs ms ts p m tape tape [] c m
going_none rs ms ts p m tape c r =
    record {
      requests = [];
      answers = [];
      meshes = [];
      paired = refl;
      paired_meshes = refl;
      recorded = refl;
      past = p;
      asked = sym (append-nil (asks p));
      answered = sym (append-nil (answers_of p));
      left = sym (append-nil (meshes_of p));
      reached = r;
      held = λ before e. e;
      written_is = refl;
    }

module _ (rs : BookRooms) (ms : Rooms) (ts : Capacities) (p : Past) (m : Left) (tape rest : List ℕ) (lines : List Line) (i : ℕ) (c : Contents) (l : i < length lines) where
  pub going_more : (rs' : BookRooms) (ms' : Rooms) (ts' : Capacities) (after : List ℕ) (d : Contents) (r : Record) (q : Request) (k : ℕ) (a : CallAnswer) (x : Line) (old new : Left)
      → rs' ≡ rs → q ≡ heard ms ts rest r → k ≡ kind_of rest → Stands rest r → after ≡ drop (size r) rest → x ≡ line_of k a new
      → Untouched q old new → Does rs' c q a new d
      → Going rs ms ts p m tape rest (take i lines) c old → Going rs ms ts p m tape after (take (i + 1) (set lines i x)) d new
  going_more rs' ms' ts' after d r q k a x old new er eq ek s ea ex untouched does g =
      let here : Reaches rs (more g.past (record { asked = q; answer = a; mesh = new })) d = (c, g.reached, subst (λ v. Does v c q a new d) er does) in
      let e : k ≡ kind_number q = ek ∙ (kind_stands ms ts rest r s ∙ ap kind_number (sym eq)) in
      let one = length_push g.requests q in
      let two = length_push g.answers a in
      let three = length_push g.meshes new in
      let pa = g.paired in
      let pm = g.paired_meshes in
      record {
        requests = g.requests ++ q ∷ [];
        answers = g.answers ++ a ∷ [];
        meshes = g.meshes ++ new ∷ [];
        paired = omega arith;
        paired_meshes = omega arith;
        recorded = subst (Recorded ms ts tape (g.requests ++ q ∷ [])) (sym ea) (recorded_more ms ts tape g.requests rest r q g.recorded (s, eq));
        past = more g.past (record { asked = q; answer = a; mesh = new });
        asked = ap (λ xs. xs ++ q ∷ []) g.asked ∙ append_assoc (asks p) g.requests (q ∷ []);
        answered = ap (λ xs. xs ++ a ∷ []) g.answered ∙ append_assoc (answers_of p) g.answers (a ∷ []);
        left = ap (λ xs. xs ++ new ∷ []) g.left ∙ append_assoc (meshes_of p) g.meshes (new ∷ []);
        reached = here;
        held = λ before b. ap (λ v. after_request q v new) (g.held before b) ∙ left_after q old new untouched;
        written_is = take_more_set lines i x l
            ∙ (ap (λ ls. ls ++ x ∷ []) g.written_is
            ∙ (ap (λ y. report g.requests g.answers g.meshes ++ y ∷ []) (ex ∙ ap (λ n. line_of n a new) e)
            ∙ sym (report-more g.requests g.answers g.meshes q a new pa pm)));
      }

-- ---- the three ends

played_so : (rs : BookRooms) (ms : Rooms) (ts : Capacities) (p : Past) (m : Left) (tape rest : List ℕ) (told written : List Line) (room : ℕ) (c : Contents) (n : Left)
    → (g : Going rs ms ts p m tape rest told c n) → Ended rest (report g.requests g.answers g.meshes) written room → Played rs ms ts p m tape written room c n
played_so rs ms ts p m tape rest told written room c n g e =
    record {
      requests = g.requests;
      answers = g.answers;
      meshes = g.meshes;
      rest = rest;
      recorded = g.recorded;
      past = g.past;
      asked = g.asked;
      answered = g.answered;
      left = g.left;
      reached = g.reached;
      promised = history rs g.past c g.reached;
      held = g.held;
      ended = e;
    }

module _ (rs : BookRooms) (ms : Rooms) (ts : Capacities) (p : Past) (m : Left) (tape rest : List ℕ) (c : Contents) (n : Left) where
  pub played_all : (written : List Line) (room : ℕ) → length rest ≤ 0 → Going rs ms ts p m tape rest written c n → Played rs ms ts p m tape written room c n
  played_all written room l g = played_so rs ms ts p m tape rest written written room c n g (inl (nil_from_length rest (omega arith), g.written_is))

  pub played_full : (lines : List Line) (i room : ℕ) → i ≤ length lines → length lines ≤ i → length lines ≡ room → Going rs ms ts p m tape rest (take i lines) c n
      → Played rs ms ts p m tape (take (length lines) lines) room c n
  played_full lines i room l f e g =
      let all : i ≡ length lines = omega arith in
      let P : ℕ → Type 0 = λ k. Played rs ms ts p m tape (take k lines) room c n in
      subst P all (played_so rs ms ts p m tape rest (take i lines) (take i lines) room c n g (inr (inr (length-take-le i lines l ∙ (let k : i ≡ room = omega arith in k), g.written_is))))

  pub played_bad : (lines : List Line) (i room : ℕ) (x : Line) → i < length lines → x ≡ bad_line rest → Unreadable rest → Going rs ms ts p m tape rest (take i lines) c n
      → Played rs ms ts p m tape (take (i + 1) (set lines i x)) room c n
  played_bad lines i room x l ex u g =
      played_so rs ms ts p m tape rest (take i lines) _ room c n g
      (inr (inl (u, take_more_set lines i x l ∙ (ap (λ ls. ls ++ x ∷ []) g.written_is ∙ ap (λ y. report g.requests g.answers g.meshes ++ y ∷ []) ex))))

-- the lines after the next one are as they were
pub kept_more : (old lines : List Line) (n : ℕ) (x : Line) → drop n lines ≡ drop n old → drop (n + 1) (set lines n x) ≡ drop (n + 1) old
kept_more old lines n x e =
    drop-set-lt (n + 1) lines n x (omega arith) ∙ (sym (drop-drop 1 n lines) ∙ (ap (drop 1) e ∙ drop-drop 1 n old))
