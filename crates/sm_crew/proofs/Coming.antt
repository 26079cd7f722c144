-- How a catalogue comes by entries, one after another.
use Rattle.std.proofs.Common.{◌≡◌, ℕ, ◌≤◌, suc, List, [], ◌∷◌, ◌++◌, refl, sym, ap, subst, ◌∙◌, arith, append_assoc, append-nil}
use Rattle.std.specs.Prelude.{IsTrue, slice_get, length, map, Some}
use Rattle.std.proofs.lemmas.List.{length-map, length-append}
use Rattle.std.proofs.lemmas.Option.{slice_get_within}
use Rattle.sm_disk.specs.Disk.{DiskState}
use Rattle.sm_model.specs.declared.event.Event.{Event}
use Rattle.sm_model.specs.declared.reply.Entry.{Entry}
use Rattle.sm_model.specs.declared.reply.Reply.{Reply}
use Rattle.sm_model.specs.World.{World, up, down}
use Rattle.sm_model.specs.LegalRun.{Fits}
use Rattle.sm_history.specs.Acts.{entry}
use Rattle.sm_seats.proofs.Lists.{some_at}
use Rattle.sm_node.specs.Seats.{Seated, device}
use Rattle.sm_node.specs.Nodes.{Node}
use Rattle.sm_node.specs.Parts.{AllTold}
use Rattle.sm_node.specs.Acts.{stays, joins}
use Rattle.sm_node.proofs.Lists.{mapped_to}
use Rattle.sm_node.proofs.Trimming.{get_front}
use Rattle.sm_core.specs.Doing.{GoesAcross}
use Rattle.sm_core.specs.Kept.{Kept}
use Rattle.sm_crew.specs.Coming.{Makes, Comes, RunsOn}

module _ {D : Type 0} (state : D → DiskState) where
  -- ---- entries behind one another

  pub comes_more : (es : List Entry) (e : Entry) (old mid new : Kept D) → Comes state old es mid → Makes state mid e new → Comes state old (es ++ e ∷ []) new
  comes_more [] e old mid new same made = (new, subst (λ (k : Kept D). Makes state k e new) same made, refl)
  comes_more (x ∷ es) e old mid new (k, first, rest) made = (k, first, comes_more es e k mid new rest made)

  pub comes_join : (es fs : List Entry) (a b c : Kept D) → Comes state a es b → Comes state b fs c → Comes state a (es ++ fs) c
  comes_join [] fs a b c same later = subst (λ (k : Kept D). Comes state k fs c) same later
  comes_join (e ∷ es) fs a b c (k, first, rest) later = (k, first, comes_join es fs k b c rest later)

  -- ---- the history and the sides

  one_grown : (e : Entry) (old new : Kept D) → Makes state old e new → new.history ≡ old.history ++ e ∷ []
  one_grown e old new made = made.acts.grown ∙ ap (λ (r : Reply). old.history ++ entry e.actor e.line e.event r ∷ []) made.kept

  pub grown : (es : List Entry) (old new : Kept D) → Comes state old es new → new.history ≡ old.history ++ es
  grown [] old new same = ap (λ (k : Kept D). k.history) same ∙ sym (append-nil old.history)
  grown (e ∷ es) old new (mid, made, rest) =
      grown es mid new rest ∙ (ap (λ (xs : List Entry). xs ++ es) (one_grown e old mid made) ∙ append_assoc old.history (e ∷ []) es)

  pub same_sides : (es : List Entry) (old new : Kept D) → Comes state old es new → new.sides ≡ old.sides
  same_sides [] old new same = ap (λ (k : Kept D). k.sides) same
  same_sides (e ∷ es) old new (mid, made, rest) = same_sides es mid new rest ∙ made.acts.sides

  -- ---- a run

  -- disks that tell their content have told it before
  told_at : (old new : Node D) → length old.seats ≤ length new.seats → ((i : ℕ) (s x : Seated D) → slice_get old.seats i ≡ Some s → slice_get new.seats i ≡ Some x → (state (device x)).told ≡ (state (device s)).told)
      → AllTold state new.seats → AllTold state old.seats
  told_at old new many same told = λ i s is.
      let within = slice_get_within old.seats i s is in
      let x = some_at new.seats i (omega (arith, within, many)) in
      subst IsTrue (same i s x.0 is x.1) (told i x.0 x.1)

  told_before : (w : World) (e : Event) (old new : Node D) → GoesAcross state w e old new → AllTold state new.seats → AllTold state old.seats
  told_before (up w) e old new (stays commits whole) told =
      let now_many = length-map new.seats device in
      let old_many = length-map old.seats device in
      let as_long = whole.as_long in
      told_at old new (omega (arith, now_many, old_many, as_long))
      (λ i s x is now. whole.told (suc i) (device s) (device x) (mapped_to device old.seats i s is) (mapped_to device new.seats i x now)) told
  told_before (up w) e old new (joins number blank there numbers_are whole) told =
      let now_many = length-map new.seats device in
      let old_many = length-map old.seats device in
      let pushed = length-append (map device old.seats) (blank ∷ []) in
      let as_long = whole.as_long in
      told_at old new (omega (arith, now_many, old_many, pushed, as_long))
      (λ i s x is now. whole.told (suc i) (device s) (device x) (get_front (map device old.seats) blank i (device s) (mapped_to device old.seats i s is)) (mapped_to device new.seats i x now)) told
  told_before (down disk d) e old new same told = subst (λ (n : Node D). AllTold state n.seats) same told

  told_back : (es : List Entry) (old new : Kept D) → Comes state old es new → AllTold state new.node.seats → AllTold state old.node.seats
  told_back [] old new same told = subst (λ (k : Kept D). AllTold state k.node.seats) same told
  told_back (e ∷ es) old new (mid, made, rest) told = told_before old.world e.event old.node mid.node made.acts.across (told_back es mid new rest told)

  pub runs_on : (es : List Entry) (old new : Kept D) → Comes state old es new → RunsOn state old es new
  runs_on [] old new same told = ([], (refl, refl, ap (λ (k : Kept D). k.world) same))
  runs_on (e ∷ es) old new (mid, made, rest) told =
      let leads = made.acts.leads (told_before old.world e.event old.node mid.node made.acts.across (told_back es mid new rest told)) in
      let later = runs_on es mid new rest told in
      let fits = subst (λ (r : Reply). Fits old.world (entry e.actor e.line e.event r) [] leads.0 mid.world []) made.kept (leads.1 []) in
      (leads.0 ++ later.0, (leads.0, later.0, [], mid.world, made.asked, fits, later.1, refl))
