use Rattle.std.proofs.Common.{◌<◌, ℕ, List, Some, None, length, sym, subst, arith}
use Rattle.tables.specs.Hashing.{Hashed}
use Rattle.tables.specs.Searching.{meanings}
use Rattle.tables.proofs.Places.{length-meanings, meanings_fit, placed_old, entering_apart}
use Rattle.tables.proofs.Probing.{hashed_placed, found_found, free_found, past_never}
use Rattle.tables.proofs.hashed.HashedTableCornerTable.enter.Goals as goal

pub returns-in-Found-clause-entering : goal.returns-in-Found-clause-entering
returns-in-Found-clause-entering g c s = placed_old _ _ _ _ (found_found _ _ _ _ _ c.in-Found.ensures s)

pub returns-in-Past-clause-entering : goal.returns-in-Past-clause-entering
returns-in-Past-clause-entering g c s =
    let more : length (meanings g.K.Key.meaning c.args.self.now.held) < length c.args.self.now.slots.items = omega (arith, c.args.self.now.enough, length-meanings g.K.Key.meaning c.args.self.now.held) in
    absurd (past_never _ _ _ _ more c.in-Past.ensures s)

pub returns-in_err-place-in-Free : goal.returns-in_err-place-in-Free
returns-in_err-place-in-Free g c =
    let refused = λ (s : Hashed g.K.Key.digest (meanings g.K.Key.meaning c.args.self.now.held) c.args.self.now.slots.items). c.in_err-place-in-Free.ensures.entering (free_found _ _ _ _ _ c.in-Free.ensures s) in
    record {
      capacity = c.add.ensures.room;
      sound = λ s. let P : List (List ℕ) → Type 0 = λ ks. Hashed g.K.Key.digest ks c.args.self.now.slots.items in subst P (sym (refused s).holds) s;
      fit = λ s. meanings_fit g.K.Key.meaning c.add.new.held (entering_apart _ _ _ _ None (refused s) s.apart);
      entering = λ s. rw c.from_residual.ensures (refused s);
    }

pub returns-in_ok-place-in-Free : goal.returns-in_ok-place-in-Free
returns-in_ok-place-in-Free g c =
    let placed = λ (s : Hashed g.K.Key.digest (meanings g.K.Key.meaning c.args.self.now.held) c.args.self.now.slots.items). c.in_ok-place-in-Free.ensures.entering (free_found _ _ _ _ _ c.in-Free.ensures s) in
    record {
      capacity = c.add.ensures.room;
      sound = λ s. hashed_placed _ _ _ _ _ _ _ _ c.in-Free.ensures (placed s) s;
      fit = λ s. meanings_fit g.K.Key.meaning c.add.new.held (entering_apart _ _ _ _ (Some c.in_ok-place-in-Free.place) (placed s) s.apart);
      entering = placed;
    }
