-- How far a report goes.
use Rattle.std.proofs.Common.{◌≡◌, List, [], ◌∷◌, ◌++◌, map, refl, sym, ap, subst, ◌∙◌, append_assoc, append-nil}
use Rattle.std.specs.List.{AllByRecursion}
use Rattle.std.proofs.lemmas.List.{map-append}
use Rattle.sm_disk.specs.Disk.{DiskState}
use Rattle.sm_defs.specs.World.{Up}
use Rattle.sm_model.specs.declared.event.Event as the_event
use Rattle.sm_model.specs.declared.reply.Entry.{Entry}
use Rattle.sm_model.specs.Asked.{Asked, asked_of, asking}
use Rattle.sm_model.specs.World.{World, up}
use Rattle.sm_shape.specs.Blanked.{blanked}
use Rattle.sm_core.specs.Kept.{Kept}
use Rattle.sm_crew.specs.Reporting.{AreAsked, TellsUp, IsWhole, StaysUp, Reports, HasStopped, Stops}
use Rattle.sm_crew.specs.declared.stop.Stop.{Stop}
use Rattle.sm_crew.specs.declared.stop.Stop.TheVariants.{Down, Fault}
use Rattle.sm_crew.proofs.Coming.{comes_join}

-- ---- lists

each_joined : {X : Type 0} (P : X → Type 0) (xs ys : List X) → AllByRecursion P xs → AllByRecursion P ys → AllByRecursion P (xs ++ ys)
each_joined P [] ys h k = k
each_joined P (x ∷ xs) ys h k = (h.0, each_joined P xs ys h.1 k)

asked_joined : (xs ys : List the_event.Event) (es fs : List Entry) → AreAsked xs es → AreAsked ys fs → AreAsked (xs ++ ys) (es ++ fs)
asked_joined xs ys es fs h k =
    map-append asked_of es fs ∙ (ap (λ (zs : List Asked). zs ++ map asked_of fs) h ∙ (ap (λ (zs : List Asked). map (asking 0) xs ++ zs) k ∙ sym (map-append (asking 0) xs ys)))

-- ---- the world

pub same_up : (a b : Up) → up a ≡ up b → a ≡ b
same_up a b e = cc

pub stays_on : (a b c : World) → StaysUp a b → StaysUp b c → StaysUp a c
stays_on a b c s t =
    let same : t.first ≡ s.last = same_up t.first s.last (sym t.was ∙ s.is) in
    record { first = s.first; last = t.last; was = s.was; is = t.is; without_bytes = t.without_bytes ∙ (ap blanked same ∙ s.without_bytes) }

pub stays_here : (a : World) (w : Up) → a ≡ up w → StaysUp a a
stays_here a w is = record { first = w; last = w; was = is; is = is; without_bytes = refl }

-- ---- events behind one another

module _ {D : Type 0} (state : D → DiskState) where
  pub none_reported : (k : Kept D) (w : Up) → k.world ≡ up w → Reports state k [] k
  none_reported k w is = record { own = []; comes = refl; whole = record { asked = refl; told = tt }; stays = stays_here k.world w is }

  pub goes_on : (a b c : Kept D) (xs ys : List the_event.Event) → Reports state a xs b → Reports state b ys c → Reports state a (xs ++ ys) c
  goes_on a b c xs ys r s = record {
    own = r.own ++ s.own;
    comes = comes_join state r.own s.own a b c r.comes s.comes;
    whole = record { asked = asked_joined xs ys r.own s.own r.whole.asked s.whole.asked; told = each_joined TellsUp r.own s.own r.whole.told s.whole.told };
    stays = stays_on a.world b.world c.world r.stays s.stays;
  }

  later_stopped : (xs ys : List the_event.Event) (es fs : List Entry) (k : Kept D) (stop : Stop) → IsWhole xs es → HasStopped state ys fs k stop → HasStopped state (xs ++ ys) (es ++ fs) k stop
  later_stopped xs ys es fs k (Down disk) whole (ended, down) = (
    record {
      done = xs ++ ended.done;
      left = ended.left;
      report_is = ap (λ (zs : List the_event.Event). xs ++ zs) ended.report_is ∙ sym (append_assoc xs ended.done ended.left);
      asked = asked_joined xs ended.done es fs whole.asked ended.asked;
      before = es ++ ended.before;
      last = ended.last;
      entries_are = ap (λ (gs : List Entry). es ++ gs) ended.entries_are ∙ sym (append_assoc es ended.before (ended.last ∷ []));
      told = each_joined TellsUp es ended.before whole.told ended.told;
      down = ended.down;
    },
    down,
  )
  later_stopped xs ys es fs k (Fault fault) whole cut = record {
    done = xs ++ cut.done;
    next = cut.next;
    left = cut.left;
    report_is = ap (λ (zs : List the_event.Event). xs ++ zs) cut.report_is ∙ sym (append_assoc xs cut.done (cut.next ∷ cut.left));
    asked = asked_joined xs cut.done es fs whole.asked cut.asked;
    told = each_joined TellsUp es fs whole.told cut.told;
    why = cut.why;
  }

  -- behind events that were done, others stop
  pub stops_later : (a b c : Kept D) (xs ys : List the_event.Event) (stop : Stop) → Reports state a xs b → Stops state b ys stop c → Stops state a (xs ++ ys) stop c
  stops_later a b c xs ys stop r s = record {
    own = r.own ++ s.own;
    comes = comes_join state r.own s.own a b c r.comes s.comes;
    stopped = later_stopped xs ys r.own s.own c stop r.whole s.stopped;
  }

  sooner_stopped : (xs ys : List the_event.Event) (es : List Entry) (k : Kept D) (stop : Stop) → HasStopped state xs es k stop → HasStopped state (xs ++ ys) es k stop
  sooner_stopped xs ys es k (Down disk) (ended, down) = (
    record {
      done = ended.done;
      left = ended.left ++ ys;
      report_is = ap (λ (zs : List the_event.Event). zs ++ ys) ended.report_is ∙ append_assoc ended.done ended.left ys;
      asked = ended.asked;
      before = ended.before;
      last = ended.last;
      entries_are = ended.entries_are;
      told = ended.told;
      down = ended.down;
    },
    down,
  )
  sooner_stopped xs ys es k (Fault fault) cut = record {
    done = cut.done;
    next = cut.next;
    left = cut.left ++ ys;
    report_is = ap (λ (zs : List the_event.Event). zs ++ ys) cut.report_is ∙ append_assoc cut.done (cut.next ∷ cut.left) ys;
    asked = cut.asked;
    told = cut.told;
    why = cut.why;
  }

  -- in front of others
  pub stops_sooner : (a c : Kept D) (xs ys : List the_event.Event) (stop : Stop) → Stops state a xs stop c → Stops state a (xs ++ ys) stop c
  stops_sooner a c xs ys stop s = record { own = s.own; comes = s.comes; stopped = sooner_stopped xs ys s.own c stop s.stopped }

  -- ---- some first events of some

  -- these are done, and behind them are left the rest of all
  pub record IsOnTheWay (old : Kept D) (rest all : List the_event.Event) (now : Kept D) : Type 0 where
    pub done : List the_event.Event
    pub reports : Reports state old done now
    pub all_are : done ++ rest ≡ all

  pub sets_out : (old : Kept D) (w : Up) (all : List the_event.Event) → old.world ≡ up w → IsOnTheWay old all all old
  sets_out old w all is = record { done = []; reports = none_reported old w is; all_are = refl }

  -- the next ones are done
  pub goes_by : (old mid new : Kept D) (here rest left all : List the_event.Event) → IsOnTheWay old left all mid → left ≡ here ++ rest → Reports state mid here new → IsOnTheWay old rest all new
  goes_by old mid new here rest left all way splits r = record {
    done = way.done ++ here;
    reports = goes_on old mid new way.done here way.reports r;
    all_are = append_assoc way.done here rest ∙ (ap (λ (zs : List the_event.Event). way.done ++ zs) (sym splits) ∙ way.all_are);
  }

  -- all are done
  pub arrives : (old now : Kept D) (rest all : List the_event.Event) → IsOnTheWay old rest all now → rest ≡ [] → Reports state old all now
  arrives old now rest all way none =
      let whole : way.done ≡ all = sym (append-nil way.done) ∙ (ap (λ (zs : List the_event.Event). way.done ++ zs) (sym none) ∙ way.all_are) in
      subst (λ (zs : List the_event.Event). Reports state old zs now) whole way.reports

  -- the next ones stop
  pub stops_by : (old mid new : Kept D) (here rest left all : List the_event.Event) (stop : Stop) → IsOnTheWay old left all mid → left ≡ here ++ rest → Stops state mid here stop new → Stops state old all stop new
  stops_by old mid new here rest left all stop way splits s =
      subst (λ (zs : List the_event.Event). Stops state old zs stop new) (ap (λ (zs : List the_event.Event). way.done ++ zs) (sym splits) ∙ way.all_are)
      (stops_later old mid new way.done (here ++ rest) stop way.reports (stops_sooner mid new here rest stop s))
