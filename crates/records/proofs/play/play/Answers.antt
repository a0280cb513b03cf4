use Rattle.std.proofs.Common.{◌≡◌, ◌<◌, ◌≤◌, length, Err, refl, ap, ◌∙◌, rules, arith}
use Rattle.std.proofs.lemmas.List.{set-get_or}
use Rattle.elements.specs.declared.error.LoadError.TheVariants.{BadRecord}
use Rattle.mesh.specs.Lists.{rooms as mesh_rooms}
use Rattle.book.specs.Held.{rooms, contained, left}
use Rattle.book.specs.Asked.{request}
use Rattle.records.specs.Playing.{line_of}
use Rattle.records.proofs.PlayFacts.{going_none, going_more, played_all, played_full, played_bad, kept_more}
use Rattle.records.proofs.play.play.Goals as goal

pub loop-count-init : goal.loop-count-init
loop-count-init g c = record { same_book = refl; same_mesh = refl; same_tables = refl; sound = λ s. s; kept = refl; going = λ p r. going_none _ _ _ p _ _ _ r }

pub loop-count-preserved : goal.loop-count-preserved
loop-count-preserved g c =
    let i = c.loop-count.invariant in
    let h = c.obey-answer.ensures in
    let e = c.in-Some.ensures in
    let l : c.loop-count.count < length c.loop-count.lines = omega arith in
    let ms = mesh_rooms c.loop-count.mesh.lists in
    let ts = (g.N.Numbering.stock c.loop-count.tables).capacities in
    let same : request ms ts c.in-Some.call ≡ request (mesh_rooms c.args.mesh.now.lists) (g.N.Numbering.stock c.args.tables.now).capacities c.in-Some.call =
    ap (λ v. request v ts c.in-Some.call) i.same_mesh ∙ ap (λ v. request (mesh_rooms c.args.mesh.now.lists) v c.in-Some.call) i.same_tables in
    record {
      same_book = h.rooms ∙ i.same_book;
      same_mesh = h.mesh_rooms ∙ i.same_mesh;
      same_tables = h.capacities ∙ i.same_tables;
      sound = λ s. h.sound (i.sound s);
      kept = kept_more c.args.lines.now c.loop-count.lines c.loop-count.count _ i.kept;
      going = λ p r. going_more (rooms c.args.book.now) (mesh_rooms c.args.mesh.now.lists) (g.N.Numbering.stock c.args.tables.now).capacities p (left c.args.mesh.now (g.N.Numbering.stock c.args.tables.now))
          c.args.tape.now c.loop-count.rest.now c.loop-count.lines c.loop-count.count (contained c.loop-count.book) l
          (rooms c.loop-count.book) ms ts c.in-Some.after.now (contained c.obey-answer.new.book) e.0 (request ms ts c.in-Some.call) c.kind-kind.result c.obey-answer.result c.line-in-loop-count.result
          (left c.loop-count.mesh (g.N.Numbering.stock c.loop-count.tables)) (left c.obey-answer.new.mesh (g.N.Numbering.stock c.obey-answer.new.tables))
          i.same_book (same ∙ e.2 _ _) c.kind-kind.ensures e.1 e.3 (c.line-in-loop-count.ensures (g.N.Numbering.stock c.obey-answer.new.tables)) h.untouched h.does (i.going p r);
    }

pub returns-then-is_empty-clause-played : goal.returns-then-is_empty-clause-played
returns-then-is_empty-clause-played g c p r =
    let none : length c.loop-count.rest.now ≤ 0 = search rules in
    rw set-get_or (played_all (rooms c.args.book.now) _ _ p _ c.args.tape.now c.loop-count.rest.now _ _ _ _ none (c.loop-count.invariant.going p r))

pub returns-in_default-clause-played : goal.returns-in_default-clause-played
returns-in_default-clause-played g c p r =
    let m = left c.loop-count.mesh (g.N.Numbering.stock c.loop-count.tables) in
    let some : 0 < length c.loop-count.rest.now = search rules in
    played_bad (rooms c.args.book.now) _ _ p _ c.args.tape.now c.loop-count.rest.now _ _ c.loop-count.lines c.loop-count.count _ c.line.result
    (omega arith) (c.line.ensures (g.N.Numbering.stock c.loop-count.tables) ∙ ap (λ k. line_of k (Err BadRecord) m) c.kind-kind.ensures) (some, c.in_default.ensures) (c.loop-count.invariant.going p r)

pub returns-clause-played : goal.returns-clause-played
returns-clause-played g c p r =
    let i = c.loop-count.invariant in
    let k = c.loop-count.auto in
    played_full (rooms c.args.book.now) _ _ p _ c.args.tape.now c.loop-count.rest.now _ _ c.loop-count.lines c.loop-count.count _ (omega (arith, k.count-end)) (omega arith) k.lines (i.going p r)
