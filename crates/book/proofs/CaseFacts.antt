-- The worked cases, by computing.
use Rattle.std.proofs.Common.{refl}
use Rattle.book.specs.Cases.{Worked}

pub worked : Worked
worked =
    record {
      all_three = (refl, refl);
      no_texture = (refl, refl);
      last = (refl, refl);
      before_first = (refl, refl);
      far_before_first = (refl, refl);
      zero = (refl, refl);
      zero_exported = refl;
      empty_parts = refl;
      fourth_part = refl;
      plus = (refl, refl);
      plus_alone = refl;
      largest = (refl, refl);
      too_large = refl;
      quad = (refl, refl);
      point_alone = (refl, refl);
      line_alone = (refl, refl);
      empty_triangulated = refl;
      empty_as_it_is = ((refl, refl), refl);
      normals_apart = (refl, refl);
      fillers = ((refl, refl), refl);
      carried_over = ((refl, refl), refl);
      signs_apart = ((refl, refl), refl);
      third_corner = refl;
      first_again = refl;
      far_normal = refl;
      few_colours = refl;
    }
