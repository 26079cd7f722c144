-- What a restart adds to the history.
use Rattle.std.proofs.Common.{◌≡◌, inl, inr, ℕ, ◌<◌, ◌^◌, List, [], ◌∷◌, ◌++◌, refl, sym, ◌∙◌, ap, subst, Option, Some, None}
use Rattle.std.proofs.lemmas.List.{append-nil}
use Rattle.sm_base.specs.declared.numbers.DiskNo.{DiskNo}
use Rattle.sm_base.specs.declared.numbers.Side.{Side}
use Rattle.sm_base.specs.declared.numbers.Side.TheVariants.{Before, After}
use Rattle.sm_disk.specs.Disk.{DiskState}
use Rattle.sm_defs.specs.World.{Up}
use Rattle.sm_model.specs.declared.event.Event.TheVariants as events
use Rattle.sm_model.specs.declared.reply.Entry.{Entry}
use Rattle.sm_model.specs.declared.reply.Reply.{Reply}
use Rattle.sm_model.specs.declared.reply.Reply.TheVariants as replies
use Rattle.sm_model.specs.LegalRun.{restart_deed, Fits, IsRestart, fault}
use Rattle.sm_model.specs.Answer.{answer}
use Rattle.sm_model.specs.Opened.{opened}
use Rattle.sm_model.specs.Sound.{SoundUp}
use Rattle.sm_model.specs.World.{World, up, down, Deed}
use Rattle.sm_shape.specs.Blanked.{blanked}
use Rattle.laws_blank.specs.Laws.{RestartsStaySound}
use Rattle.sm_node.specs.Nodes.{Node, world_of}
use Rattle.sm_node.specs.Parts.{devices}
use Rattle.sm_node.specs.Halved.{world_at}
use Rattle.sm_node.specs.Turning.{SeatFailed}
use Rattle.sm_node.specs.Returning.{Returns, StaysDown, GoesInPair}
use Rattle.sm_node.specs.Counted.{CountsStay, CountRises}
use Rattle.sm_core.specs.Deeds.{deed_by, deed_of}
use Rattle.sm_core.specs.Falling.{deed_now, world_now, kept_of, IsSoundPair}
use Rattle.sm_core.specs.Restarting.{pair_of, restart_entry, LeadsOn, IsBeforeIfUp, DoesRestart, RestartsOnce}
use Rattle.sm_core.specs.declared.down.Down.{Down}
use Rattle.sm_core.proofs.FaultCounts.{quiet_rises, failure_rises}

fits_done : (w : World) (actor line : ℕ) (t : Side) → (deeds : List Deed) × ((rest : List Side) → Fits w (restart_entry actor line replies.Done) (t ∷ rest) deeds (up (opened (world_at t (pair_of w)))) rest)
unfolding IsRestart
fits_done (up w) actor line Before = ([], λ rest. Fits.restart_up Before tt refl)
fits_done (up w) actor line After = ([], λ rest. Fits.restart_up After tt refl)
fits_done (down disk d) actor line Before = ([], λ rest. Fits.restart_before tt refl)
fits_done (down disk d) actor line After = (d ∷ [], λ rest. Fits.restart_after tt refl)

done_leads : (w : World) (actor line : ℕ) (t : Side) (sides : List Side) (x : Up) → x ≡ opened (world_at t (pair_of w)) → LeadsOn w (restart_entry actor line replies.Done) sides (up x) (sides ++ t ∷ [])
done_leads w actor line t sides x is =
    let fits = fits_done w actor line t in
    subst (λ (y : Up). LeadsOn w (restart_entry actor line replies.Done) sides (up y) (sides ++ t ∷ [])) (sym is) (fits.0, t ∷ [], refl, fits.1)

fits_failed : (w : World) (actor line : ℕ) (disk : DiskNo) (count : ℕ) (rest : List Side) → Fits w (restart_entry actor line (fault disk count)) rest [] (down disk.0 (pair_of w)) rest
unfolding IsRestart
fits_failed (up w) actor line disk count rest = Fits.restart_failed_up disk count tt refl
fits_failed (down old d) actor line disk count rest = Fits.restart_failed disk count tt refl

failed_leads : (w : World) (actor line : ℕ) (disk : DiskNo) (count : ℕ) (sides : List Side) (new : World) → new ≡ down disk.0 (pair_of w) → LeadsOn w (restart_entry actor line (fault disk count)) sides new sides
failed_leads w actor line disk count sides new is =
    subst (λ (x : World). LeadsOn w (restart_entry actor line (fault disk count)) sides x sides) (sym is) ([], [], sym (append-nil sides), λ rest. fits_failed w actor line disk count rest)

before_if_up : {D : Type 0} (o : Option (Down D)) (n : Node D) (t : Side) → (o ≡ None → t ≡ Before) → IsBeforeIfUp (world_now o n) t
before_if_up None n t h = h refl
before_if_up (Some x) n t h = tt

side_sound : (t : Side) (d : Deed) → IsSoundPair d → SoundUp (blanked (world_at t d))
side_sound Before d sound = sound.0
side_sound After d sound = sound.1

done_is_no_fault : (disk : DiskNo) (count : ℕ) → ¬ (replies.Done ≡ fault disk count)
done_is_no_fault disk count e = cc

module _ {D : Type 0} (state : D → DiskState) (o : Option (Down D)) (n n' : Node D) (sides : List Side) (d : Deed) (t : Side) (pair : d ≡ pair_of (world_now o n)) (sound : IsSoundPair d) where
  pub restart_done : RestartsStaySound → (o ≡ None → t ≡ Before) → CountsStay state n n' → Returns state d n n' t → DoesRestart state replies.Done o n sides None n' (sides ++ t ∷ [])
  restart_done stays fresh stay returns =
      let back = subst (λ (p : Deed). Returns state p n n' t) pair returns in
      record {
        leads = λ told actor line. done_leads (world_now o n) actor line t sides (world_of n') (back.world told);
        across = back.whole;
        said = inl (record { is = refl; side = t; kept = refl; before = before_if_up o n t fresh; world = world_of n'; reached = refl; without_bytes = back.without_bytes });
        stands = back.up;
        sound = subst SoundUp (sym returns.without_bytes) (stays (world_at t d) (side_sound t d sound));
        faults = λ actor line. quiet_rises state n n' (restart_entry actor line replies.Done) done_is_no_fault stay;
      }

  pub restart_failed : (x : Down D) (disk : DiskNo) (count : ℕ) → x.disk ≡ disk → x.side ≡ t → deed_now x ≡ d → SeatFailed state n disk count n' → count < 2 ^ 64 → CountRises state disk count n n' → StaysDown state d n n' t → DoesRestart state (fault disk count) o n sides (Some x) n' sides
  restart_failed x disk count disk_is side_is deed_is failed small rises stays =
      let still = subst (λ (p : Deed). StaysDown state p n n' t) pair stays in
      let world : world_now (Some x) n' ≡ down disk.0 (pair_of (world_now o n)) = ap (λ (k : DiskNo). down k.0 (deed_now x)) disk_is ∙ ap (down disk.0) (deed_is ∙ pair) in
      let here = subst (λ (p : Deed). StaysDown state p n n' t) (sym deed_is) stays in
      record {
        leads = λ told actor line. failed_leads (world_now o n) actor line disk count sides (world_now (Some x) n') world;
        across = ([], subst (λ (disks : List D). GoesInPair state (pair_of (world_now o n)) (devices n) disks) (sym (append-nil (devices n'))) still.whole);
        said = inr (record { disk = disk; count = count; is = refl; failed = failed; same = refl; down = world });
        stands = (subst (λ (s : Side). StaysDown state (deed_now x) n n' s) (sym side_is) here).down;
        sound = subst IsSoundPair (sym deed_is) sound;
        faults = λ actor line. failure_rises state n n' (restart_entry actor line (fault disk count)) disk count small refl rises;
      }

-- of a restart of a node that is up
pub began_deed : {D : Type 0} (x : Down D) (n : Node D) → x.actor ≡ 0 → x.event.value ≡ events.Restart → x.node.value ≡ n → deed_now x ≡ restart_deed (world_of n)
unfolding deed_by answer
began_deed x n actor_is event_is node_is = same x n actor_is event_is node_is ∙ refl
  where
    same : {D : Type 0} (x : Down D) (n : Node D) → x.actor ≡ 0 → x.event.value ≡ events.Restart → x.node.value ≡ n → deed_now x ≡ deed_of (world_of n) 0 events.Restart
    same x n actor_is event_is node_is = rw (actor_is, event_is, node_is) refl

pub restarts_once : {D : Type 0} (state : D → DiskState) (o : Option (Down D)) (n : Node D) (es : List Entry) (sides : List Side) (o' : Option (Down D)) (n' : Node D) (es' : List Entry) (sides' : List Side) (actor line : ℕ) (reply : Reply)
    → DoesRestart state reply o n sides o' n' sides' → es' ≡ es ++ restart_entry actor line reply ∷ [] → RestartsOnce state (kept_of o n es sides) actor line reply (kept_of o' n' es' sides')
restarts_once state o n es sides o' n' es' sides' actor line reply does grown = record {
  grown = grown;
  leads = λ told. does.leads told actor line;
  across = does.across;
  said = does.said;
  faults = does.faults actor line;
}
