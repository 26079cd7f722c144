-- Along deeds: what stands has its origin, and what has an origin was given.
use Rattle.std.proofs.Common.{◌≡◌, ◌⊎◌, Bool, true, false, cond, List, [], ◌∷◌, ◌++◌, Option, Some, None, refl, sym, ap, subst, ◌∙◌, inl, inr, true≢false}
use Rattle.std.specs.List.{find}
use Rattle.sm_base.specs.declared.numbers.Ident.{Ident}
use Rattle.sm_defs.specs.Words.{Among, same_ident, or_else}
use Rattle.sm_defs.specs.Image.{Image, SameContents}
use Rattle.sm_defs.specs.Volume.{Volume, Snapshot}
use Rattle.sm_defs.specs.World.{Up, volume_at}
use Rattle.sm_defs.proofs.Idents.{same_is}
use Rattle.sm_defs.proofs.Searches.{find_none}
use Rattle.sm_model.specs.World.{Deed}
use Rattle.sm_model.specs.Standing.{Stands}
use Rattle.sm_model.specs.Opened.{opened}
use Rattle.sm_model.specs.Origin.{makes, origin, origin_from, found_active, lowest_copy}
use Rattle.sm_model.specs.Sound.{SoundUp}
use Rattle.laws_contents.specs.Contents.{WasThere, WasTaken, IsTraced, HasOrigin, AllHaveOrigins}
use Rattle.laws_cases.proofs.Steps.Parties.{snapshot_is, lacked}
use Rattle.laws_copies.proofs.Growing.{Grown}
use Rattle.laws_copies.proofs.Spent.{Spent, KeepsReserved, spent_stays, spent_opened, standing_spent}
use Rattle.laws_copies.proofs.Brings.{Brings, copies, one_new}
use Rattle.laws_contents.proofs.Traced.{makes_none, makes_one, brought_traced}
use Rattle.laws_copies.proofs.Copies.{ComesFrom}
use Rattle.laws_copies.proofs.CopiesStay.{reopened_come}

pub record Along (start : Up) (ds : List Deed) (w : Up) : Type 0 where
  pub origins : AllHaveOrigins start ds w
  pub spent : (i : Ident) (image : Image) → origin start ds i ≡ Some image → Spent w i

-- ---- origins of a longer list

find_joined : {X : Type 0} (p : X → Bool) (xs ys : List X) → find p (xs ++ ys) ≡ or_else (find p xs) (find p ys)
find_joined p [] ys = refl
find_joined {X} p (x ∷ xs) ys = go (p x) (find p (xs ++ ys)) (find p xs) (find_joined p xs ys)
  where
    go : (b : Bool) (o q : Option X) → o ≡ or_else q (find p ys) → cond b (Some x) o ≡ or_else (cond b (Some x) q) (find p ys)
    go true o q e = refl
    go false o q e = e

known_go : (i : Ident) (c : Option Snapshot) (o : Option Deed) (q : Option Deed) (image : Image) → origin_from i c o ≡ Some image → origin_from i c (or_else o q) ≡ Some image
known_go i (Some s) o q image e = e
known_go i None (Some d) q image e = e
known_go i None None q image e = absurd (cc)

-- what is known stays
pub origin_stays : (start : Up) (ds es : List Deed) (i : Ident) (image : Image) → origin start ds i ≡ Some image → origin start (ds ++ es) i ≡ Some image
origin_stays start ds es i image e = ap (origin_from i (lowest_copy i start.volumes)) (find_joined (makes i) ds es) ∙ known_go i (lowest_copy i start.volumes) (find (makes i) ds) (find (makes i) es) image e

found_last : (i : Ident) (d : Deed) (b : Bool) → makes i d ≡ b → cond b (Some d) None ≡ cond (makes i d) (Some d) None
found_last i d b e = ap (λ c. cond c (Some d) None) (sym e)

none_go : (i : Ident) (c : Option Snapshot) (o q : Option Deed) → origin_from i c o ≡ None → origin_from i c (or_else o q) ≡ found_active i q
none_go i (Some s) o q e = absurd (cc)
none_go i None (Some d) q e = absurd (cc)
none_go i None None q e = refl

-- what was not known has its origin at the deed, if anywhere
origin_at : (start : Up) (ds : List Deed) (d : Deed) (i : Ident) → origin start ds i ≡ None → origin start (ds ++ d ∷ []) i ≡ found_active i (cond (makes i d) (Some d) None)
origin_at start ds d i e = ap (origin_from i (lowest_copy i start.volumes)) (find_joined (makes i) ds (d ∷ [])) ∙ none_go i (lowest_copy i start.volumes) (find (makes i) ds) (find (makes i) (d ∷ [])) e

-- ---- one more deed

-- what a deed makes was not given before, and is after it
pub record Progress (d : Deed) : Type 0 where
  pub traced : IsTraced d
  pub stays : (i : Ident) → Spent d.old i → Spent d.new i
  pub anew : (i : Ident) → Spent d.old i → makes i d ≡ false
  pub given : (i : Ident) → makes i d ≡ true → Spent d.new i

pub brought_progress : {Given : Type 0} (d : Deed) → Brings d.old Given d.reply d.new → Grown d.old d.new → KeepsReserved d.old d.new → Progress d
brought_progress {Given} d b g k = record { traced = brought_traced d b; stays = λ i s. spent_stays d.old d.new i g k s; anew = anew b; given = given b }
  where
    anew : Brings d.old Given d.reply d.new → (i : Ident) → Spent d.old i → makes i d ≡ false
    anew (copies h e) i s = makes_none d i e
    anew (one_new f n h e z b) i s = makes_one d i f.ident e ∙ Rattle.std.proofs.lemmas.Bool.false_from_ne_true (same_ident f.ident i) (λ q. n.unspent (subst (Spent d.old) (sym (same_is f.ident i q)) s))

    given : Brings d.old Given d.reply d.new → (i : Ident) → makes i d ≡ true → Spent d.new i
    given (copies h e) i m = absurd (true≢false (sym m ∙ makes_none d i e))
    given (one_new f n h e z b) i m = subst (Spent d.new) (same_is f.ident i (sym (makes_one d i f.ident e) ∙ m)) z

-- a deed whose making was known would be made again
unknown : (start : Up) (ds : List Deed) (d : Deed) (i : Ident) → Along start ds d.old → Progress d → makes i d ≡ true → (o : Option Image) → origin start ds i ≡ o → o ≡ None
unknown start ds d i a p m None e = refl
unknown start ds d i a p m (Some image) e = absurd (true≢false (sym m ∙ p.anew i (a.spent i image e)))

pub made_unknown : (start : Up) (ds : List Deed) (d : Deed) (i : Ident) → Along start ds d.old → Progress d → makes i d ≡ true → origin start ds i ≡ None
made_unknown start ds d i a p m = let e = unknown start ds d i a p m (origin start ds i) refl in e

pub along_deed : (start : Up) (ds : List Deed) (d : Deed) → Along start ds d.old → Progress d → Along start (ds ++ d ∷ []) d.new
along_deed start ds d a p = record { origins = λ v s m. old_or_new s (p.traced v s m); spent = λ i image e. by i image (origin start ds i) refl e }
  where
    old_or_new : (s : Snapshot) → (WasThere d.old s × (makes s.ident d ≡ false)) ⊎ WasTaken d s → HasOrigin start (ds ++ d ∷ []) s
    old_or_new s (inl (t, f)) =
        let (v, u, k, c) = t in let (image, e, q) = a.origins v u k in
        (image, origin_stays start ds (d ∷ []) s.ident image (ap (origin start ds) c.ident ∙ e), c.contents ∙ q)
    old_or_new s (inr t) = (
      (volume_at d.old s.ident.origin).active,
      origin_at start ds d s.ident (made_unknown start ds d s.ident a p t.made) ∙ ap (λ b. found_active s.ident (cond b (Some d) None)) t.made,
      t.contents,
    )

    by_made : (i : Ident) (image : Image) (b : Bool) → makes i d ≡ b → found_active i (cond b (Some d) None) ≡ Some image → Spent d.new i
    by_made i image true m e = p.given i m
    by_made i image false m e = absurd (cc)

    by : (i : Ident) (image : Image) (o : Option Image) → origin start ds i ≡ o → origin start (ds ++ d ∷ []) i ≡ Some image → Spent d.new i
    by i image (Some other) f e = p.stays i (a.spent i other f)
    by i image None f e = by_made i image (makes i d) refl (sym (origin_at start ds d i f) ∙ e)

-- ---- restarts and the start

pub along_opened : (start : Up) (ds : List Deed) (w : Up) → Along start ds w → Along start ds (opened w)
along_opened start ds w a = record { origins = λ v s m. from s (reopened_come w v s m); spent = λ i image e. spent_opened w i (a.spent i image e) }
  where
    from : (s : Snapshot) → ComesFrom w s → HasOrigin start ds s
    from s c = let (image, e, q) = a.origins c.volume c.snapshot c.stands in (image, ap (origin start ds) c.copy.ident ∙ e, c.copy.contents ∙ q)

lowest_go : (v : Volume) (vs : List Volume) (i : Ident) (u : Snapshot) (o q : Option Snapshot) → find (λ s. same_ident s.ident i) v.snapshots ≡ o → or_else o q ≡ Some u →
    (q ≡ Some u → (z : Volume) × Among vs z × Among z.snapshots u × (u.ident ≡ i)) → (z : Volume) × Among (v ∷ vs) z × Among z.snapshots u × (u.ident ≡ i)
lowest_go v vs i u (Some x) q f e h = let p = snapshot_is v.snapshots i u (f ∙ e) in (v, inl refl, p.0, p.1)
lowest_go v vs i u None q f e h = let (z, m, n, p) = h e in (z, inr m, n, p)

lowest_is : (i : Ident) (vs : List Volume) (u : Snapshot) → lowest_copy i vs ≡ Some u → (z : Volume) × Among vs z × Among z.snapshots u × (u.ident ≡ i)
lowest_is i [] u e = absurd (cc)
lowest_is i (v ∷ vs) u e = lowest_go v vs i u _ (lowest_copy i vs) refl e (lowest_is i vs u)

none_both : (o q : Option Snapshot) → or_else o q ≡ None → (o ≡ None) × (q ≡ None)
none_both None q e = (refl, e)
none_both (Some x) q e = absurd (cc)

lowest_none : (i : Ident) (vs : List Volume) → lowest_copy i vs ≡ None → (v : Volume) (t : Snapshot) → Among vs v → Among v.snapshots t → ¬ (t.ident ≡ i)
lowest_none i [] e v t m n = absurd m
lowest_none i (z ∷ zs) e v t (inl p) n = lacked z.snapshots i t (find_none (λ s. same_ident s.ident i) z.snapshots (none_both _ (lowest_copy i zs) e).0) (subst (λ y. Among y.snapshots t) p n)
lowest_none i (z ∷ zs) e v t (inr m) n = lowest_none i zs (none_both _ (lowest_copy i zs) e).1 v t m n

start_origin : (w : Up) (v : Volume) (s : Snapshot) → SoundUp w → Stands w v s → (o : Option Snapshot) → lowest_copy s.ident w.volumes ≡ o → (image : Image) × (origin_from s.ident o None ≡ Some image) × SameContents s.image image
start_origin w v s k m None e = absurd (lowest_none s.ident w.volumes e v s m.0 m.1 refl)
start_origin w v s k m (Some u) e = let (z, a, b, p) = lowest_is s.ident w.volumes u e in (u.image, refl, (k.copies_agree v z s u m (a, b) (sym p)).contents)

start_spent : (w : Up) (i : Ident) (image : Image) → SoundUp w → (o : Option Snapshot) → lowest_copy i w.volumes ≡ o → origin_from i o None ≡ Some image → Spent w i
start_spent w i image k None e f = absurd (cc)
start_spent w i image k (Some u) e f = let (z, a, b, p) = lowest_is i w.volumes u e in subst (Spent w) p (standing_spent w z u k (a, b))

pub along_start : (w : Up) → SoundUp w → Along w [] w
along_start w k = record { origins = λ v s m. start_origin w v s k m (lowest_copy s.ident w.volumes) refl; spent = λ i image e. start_spent w i image k (lowest_copy i w.volumes) refl e }
