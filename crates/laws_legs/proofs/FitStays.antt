-- What was shipped still fits after each restart.
use Rattle.std.proofs.Common.{◌≡◌, ◌<◌, ℕ, suc, true, List, [], ◌∷◌, length, Option, Some, None, Ok, refl, sym, ◌∙◌, ap, ap₂, subst, inl, inr, true≢false}
use Rattle.std.specs.Prelude.{slice_get}
use Rattle.std.proofs.lemmas.Option.{same_Some}
use Rattle.sm_base.specs.declared.numbers.Kind.{Kind}
use Rattle.sm_base.specs.declared.numbers.Kind.TheVariants.{Rw, Dp}
use Rattle.sm_defs.specs.Words.{Among}
use Rattle.sm_defs.specs.Image.{Block, Image, hole}
use Rattle.sm_defs.specs.Volume.{Volume, Snapshot, has, numbers, no_volume}
use Rattle.sm_defs.specs.Relationship.{Relationship, Transfer}
use Rattle.sm_defs.specs.World.{Up, volume_at}
use Rattle.sm_model.specs.declared.event.Event.{Event}
use Rattle.sm_model.specs.Answers.{Reached}
use Rattle.sm_model.specs.Answer.{answer}
use Rattle.sm_model.specs.Opened.{opened, rejoined, restarted}
use Rattle.sm_model.specs.Running.{running_in}
use Rattle.sm_model.specs.Steps.{snapshot_of}
use Rattle.sm_model.specs.Crossed.{CrossedRelation}
use Rattle.sm_model.specs.DestinationsStand.{StandsAtSnapshot}
use Rattle.sm_model.specs.LegsFit.{LegsFit}
use Rattle.sm_model.specs.Sound.{SoundUp}
use Rattle.laws_cases.proofs.Needed.Needs.{mapped_at}
use Rattle.laws_cases.proofs.Needed.NeedsStay.{answers_keep}
use Rattle.laws_cases.proofs.Moves.OfMoves.{answer_moves}
use Rattle.laws_legs.proofs.FitParts.{Alike, fits_rested, fits_unbegun}
use Rattle.laws_legs.proofs.FitAnswers.{FitsIn, resumed_rests, of_move}
use Rattle.sm_defs.specs.Operations as operations
use Rattle.sm_defs.proofs.Members.{among_get_or, from_map}

pub answers_keep_fit : (w : Up) (e : Event) (reached : Reached) → SoundUp w → answer w e ≡ Some (Ok reached) → LegsFit reached.world
answers_keep_fit w e reached s i = of_move w reached.world s (answer_moves w e reached i) (answers_keep w e reached i)

-- ---- a read-only volume is as its last consistency point

-- two images of one length that have holes alone
same_holes : (xs ys : Image) → length xs ≡ length ys → ((p : ℕ) (b : Block) → slice_get xs p ≡ Some b → b ≡ hole) → ((p : ℕ) (b : Block) → slice_get ys p ≡ Some b → b ≡ hole) → xs ≡ ys
same_holes [] [] e h k = refl
same_holes [] (y ∷ ys) e h k = absurd (cc)
same_holes (x ∷ xs) [] e h k = absurd (cc)
same_holes (x ∷ xs) (y ∷ ys) e h k = ap₂ (λ (b : Block) (bs : Image). b ∷ bs) (h 0 x refl ∙ sym (k 0 y refl)) (same_holes xs ys (let f : length xs ≡ length ys = cc in f) (λ p b f. h (suc p) b f) (λ p b f. k (suc p) b f))

still : (w : Up) (v : Volume) → SoundUp w → Among w.volumes v → v.kind ≡ Dp → v.stable ≡ v.active
still w v s m d = go v.snapshots refl
  where
    stands : StandsAtSnapshot v
    stands = s.destinations_stand.volumes v m d

    go : (ss : List Snapshot) → v.snapshots ≡ ss → v.stable ≡ v.active
    go [] e = same_holes v.stable v.active ((s.formed.volumes v m).long v.stable (inr (inl refl)) ∙ sym ((s.formed.volumes v m).long v.active (inl refl)))
        (λ p b f. stands.blank e p b (v.stable, inr (inl refl), f)) (λ p b f. stands.blank e p b (v.active, inl refl, f))
    go (t ∷ ts) e = stands.still (λ z. let f : t ∷ ts ≡ [] = sym e ∙ z in cc)

reopened_still : (v : Volume) → v.stable ≡ v.active → operations.opened v ≡ v
reopened_still v e = ap (λ image. record v { active = image }) e

-- ---- restarts

reopened_at : (w : Up) (i : ℕ) → i < length w.volumes → volume_at (opened w) i ≡ operations.opened (volume_at w i)
reopened_at w i l = mapped_at operations.opened w.volumes no_volume i l

rejoined_fits : (w : Up) (q : Relationship) (u t : Transfer) → SoundUp w → Among w.relations q → q.transfer ≡ Some u → restarted (Some u) ≡ Some t → (k : Kind) → (volume_at w q.destination).kind ≡ k → FitsIn (opened w) (rejoined q) t
rejoined_fits w q u t s m e f Rw g = let b = s.transfers_stand q u m e in let (x, c, l, y) = b.writable g in
    subst (FitsIn (opened w) (rejoined q)) (same_Some _ t f) (fits_unbegun (running_in (opened w) (rejoined q) _) c (ap (numbers 0) c) (λ _ z. absurd (true≢false (sym z))))
rejoined_fits w q u t s m e f Dp g = subst (FitsIn (opened w) (rejoined q)) (same_Some _ t f)
    (fits_rested (running_in w q u) (running_in (opened w) (rejoined q) _) alike (resumed_rests u _ refl refl refl refl) (s.legs_fit q u m e))
  where
    c : CrossedRelation w q
    c = s.crossed.relations q m

    source : (volume_at (opened w) q.source).snapshots ≡ (volume_at w q.source).snapshots
    source = ap (λ v. v.snapshots) (reopened_at w q.source c.source)

    alike : {v : Transfer} → Alike (running_in w q u) (running_in (opened w) (rejoined q) v)
    alike = record {
      destination = reopened_at w q.destination c.destination ∙ reopened_still (volume_at w q.destination) (still w (volume_at w q.destination) s (among_get_or w.volumes q.destination no_volume c.destination) g);
      kind = refl;
      base = refl;
      base_there = ap (λ ss. snapshot_of ss q.base) source;
      legs = λ i _ _. ap (λ ss. snapshot_of ss (Some i)) source;
      stay = λ i _ h. subst (λ ss. has ss i ≡ true) (sym source) h;
      from = λ x n _ _. subst (λ ss. Among ss x) source n;
    }

pub restarts_keep_fit : (w : Up) → SoundUp w → LegsFit (opened w)
restarts_keep_fit w s r t m f = let (q, n, e) = from_map rejoined w.relations r m in
    subst (λ p. FitsIn (opened w) p t) (sym e) (go q n q.transfer refl (ap (λ y. y.transfer) (sym e) ∙ f))
  where
    go : (q : Relationship) → Among w.relations q → (o : Option Transfer) → q.transfer ≡ o → restarted o ≡ Some t → FitsIn (opened w) (rejoined q) t
    go q n None g i = absurd (cc)
    go q n (Some u) g i = rejoined_fits w q u t s n g i (volume_at w q.destination).kind refl
