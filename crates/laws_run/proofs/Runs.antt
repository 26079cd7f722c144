-- How legal runs are put together and taken apart.
use Rattle.std.proofs.Common.{◌≡◌, List, [], ◌∷◌, ◌++◌, refl, sym, ap, subst, ◌∙◌, append_assoc, append-nil}
use Rattle.sm_base.specs.declared.numbers.Side.{Side}
use Rattle.sm_base.specs.declared.numbers.Side.TheVariants.{Before, After}
use Rattle.sm_model.specs.declared.reply.Entry.{Entry}
use Rattle.sm_model.specs.World.{World, Deed}
use Rattle.sm_model.specs.LegalRun.{Fits, done, quiet, failed, down_still, restart_up, restart_before, restart_after, restart_failed_up, restart_failed, IsAsked, Run}

-- further sides stay behind those that an entry takes
pub fits_before : {w new : World} {e : Entry} {sides left : List Side} {ds : List Deed} (more : List Side) → Fits w e sides ds new left → Fits w e (sides ++ more) ds new (left ++ more)
fits_before more (done d o a b c i) = done d o a b c i
fits_before more (quiet i) = quiet i
fits_before more (failed d disk count o a b i c e) = failed d disk count o a b i c e
fits_before more (down_still n e) = down_still n e
fits_before more (restart_up side r e) = restart_up side r e
fits_before more (restart_before r e) = restart_before r e
fits_before more (restart_after r e) = restart_after r e
fits_before more (restart_failed_up disk count r e) = restart_failed_up disk count r e
fits_before more (restart_failed disk count r e) = restart_failed disk count r e

pub nil : (w : World) → Run w [] [] [] w
nil w = (refl, refl, refl)

-- one run after another
pub append : (old mid new : World) (es fs : List Entry) (sides more : List Side) (ds later : List Deed) →
    Run old es sides ds mid → Run mid fs more later new → Run old (es ++ fs) (sides ++ more) (ds ++ later) new
append old mid new [] fs sides more ds later (a, b, c) r = rw (a, b) (subst (λ w. Run w fs more later new) c r)
append old mid new (e ∷ es) fs sides more ds later (first, rest, left, next, asked, f, r, q) s =
    (first, rest ++ later, left ++ more, next, asked, fits_before more f, append next mid new es fs left more rest later r s, rw q (append_assoc first rest later))

-- one entry behind, without restarts
pub snoc : (old mid new : World) (es : List Entry) (e : Entry) (ds first : List Deed) →
    Run old es [] ds mid → IsAsked mid e.event → Fits mid e [] first new [] → Run old (es ++ e ∷ []) [] (ds ++ first) new
snoc old mid new es e ds first r asked f = append old mid new es (e ∷ []) [] [] ds first r (first, [], [], new, asked, f, nil new, sym (append-nil first))

-- the sides that an entry takes, and what is left of them
pub record Taking (w new : World) (e : Entry) (sides left : List Side) (ds : List Deed) : Type 0 where
  pub taken : List Side
  pub sides_are : sides ≡ taken ++ left
  pub fits : Fits w e taken ds new []

pub taking : {w new : World} {e : Entry} {sides left : List Side} {ds : List Deed} → Fits w e sides ds new left → Taking w new e sides left ds
taking (done d o a b c i) = record { taken = []; sides_are = refl; fits = done d o a b c i }
taking (quiet i) = record { taken = []; sides_are = refl; fits = quiet i }
taking (failed d disk count o a b i c e) = record { taken = []; sides_are = refl; fits = failed d disk count o a b i c e }
taking (down_still n e) = record { taken = []; sides_are = refl; fits = down_still n e }
taking (restart_up side r e) = record { taken = side ∷ []; sides_are = refl; fits = restart_up side r e }
taking (restart_before r e) = record { taken = Before ∷ []; sides_are = refl; fits = restart_before r e }
taking (restart_after r e) = record { taken = After ∷ []; sides_are = refl; fits = restart_after r e }
taking (restart_failed_up disk count r e) = record { taken = []; sides_are = refl; fits = restart_failed_up disk count r e }
taking (restart_failed disk count r e) = record { taken = []; sides_are = refl; fits = restart_failed disk count r e }

-- where a run is cut in two
pub record Cut (old new : World) (front back : List Entry) (sides : List Side) (ds : List Deed) : Type 0 where
  pub mid : World
  pub taken : List Side
  pub left : List Side
  pub first : List Deed
  pub later : List Deed
  pub front_runs : Run old front taken first mid
  pub back_runs : Run mid back left later new
  pub sides_are : sides ≡ taken ++ left
  pub deeds_are : ds ≡ first ++ later

-- a front of a run is a run, and so is what is behind it
pub cut : (old new : World) (front back : List Entry) (sides : List Side) (ds : List Deed) → Run old (front ++ back) sides ds new → Cut old new front back sides ds
cut old new [] back sides ds r = record {
  mid = old;
  taken = [];
  left = sides;
  first = [];
  later = ds;
  front_runs = nil old;
  back_runs = r;
  sides_are = refl;
  deeds_are = refl;
}
cut old new (e ∷ es) back sides ds (first, rest, left, next, asked, f, r, q) =
    let t = taking f in let c = cut next new es back left rest r in record {
      mid = c.mid;
      taken = t.taken ++ c.taken;
      left = c.left;
      first = first ++ c.first;
      later = c.later;
      front_runs = (first, c.first, c.taken, next, asked, fits_before c.taken t.fits, c.front_runs, refl);
      back_runs = c.back_runs;
      sides_are = t.sides_are ∙ (ap (λ x. t.taken ++ x) c.sides_are ∙ sym (append_assoc t.taken c.taken c.left));
      deeds_are = q ∙ (ap (λ x. first ++ x) c.deeds_are ∙ sym (append_assoc first c.first c.later));
    }
