-- What the clauses of a volume's calls say of the plain assignments.
use Rattle.std.proofs.Common.{◌≡◌, inl, inr, ℕ, suc, ◌<◌, ◌≤◌, length, get_or, Bool, true, false, cond, List, [], ◌∷◌, ◌++◌, map, take, drop, refl, sym, ap, ◌∙◌, subst, Option, Some, None, Result, Ok, Err, OnOk, OnErr, IsErr, IsTrue}
use Rattle.sm_base.specs.declared.numbers.Ident.{Ident}
use Rattle.sm_base.specs.declared.numbers.Side.{Side}
use Rattle.sm_base.specs.declared.numbers.Side.TheVariants.{Before, After}
use Rattle.sm_base.specs.declared.numbers.Block.{Block as Bytes}
use Rattle.sm_defs.specs.Image.{Block}
use Rattle.std.specs.Prelude.{Vec}
use Rattle.std.specs.declared.alloc.Global.{Global}
use Rattle.std.proofs.Math.Seq.{drop-cons}
use Rattle.std.proofs.lemmas.List.{take-append-drop, take_all, append-nil}
use Rattle.sm_defs.specs.Volume.{Volume, has}
use Rattle.sm_volume.specs.Seen.{image_of}
use Rattle.sm_disk.specs.Image as disk
use Rattle.sm_disk.specs.Disk.{DiskState}
use Rattle.volume_store.specs.declared.faults.VolumeFault.{VolumeFault}
use Rattle.volume_store.specs.declared.faults.VolumeFault.TheVariants.{DiskFault, NoSnapshot, NameTaken, NoMemory as OutOfMemory}
use Rattle.sm_root.specs.declared.head.Head.{Head}
use Rattle.volume_store.specs.declared.io.View.{View}
use Rattle.volume_store.specs.Held.{block_at}
use Rattle.volume_store.specs.Refusals.{Refuses, RefusesOrFails}
use Rattle.sm_volume.specs.Mounted.{Mounted, opened, of_side, bare}
use Rattle.sm_volume.specs.Restarted.{IsRestarted}
use Rattle.sm_volume.specs.Shown.{KeepsBlocks, SameBlocks, NoBlock}
use Rattle.sm_volume.specs.Commits.{Commits}
use Rattle.sm_volume.specs.Assigned.{IsReverted, snapped, adopted, snapshot_of}
use Rattle.sm_defs.specs.Operations.{IsLeastFree, least_free, written}
use Rattle.sm_volume.specs.Refusals.{write_refusal, read_refusal, revert_refusal, snapshot_refusal, adopt_refusal}
use Rattle.laws_volume.specs.declared.call.Call.{Call}
use Rattle.laws_volume.specs.declared.call.Call.TheVariants as calls
use Rattle.laws_volume.specs.Assigned.{Plain, plain, Assigns, AssignsAll, AreReady, AskNothing}
use Rattle.laws_volume.specs.Answered.{Answers, AnswersAll, IsDone, AreDone}

-- a commit that is answered Ok
pub committed : {D : Type 0} (state : D → DiskState) (old new : Mounted D) (next : Volume) (r : Result (Unit {0}) VolumeFault) → Commits state old next r new → OnOk r ((new.volume ≡ next) × SameBlocks NoBlock (state old.disk).seen (state new.disk).seen)
committed state old new next (Ok u) h = (ap (λ v. v.volume) h.ok, h.blocks.seen)
committed state old new next (Err x) h = tt

stays_up : {D : Type 0} (state : D → DiskState) (old new : Mounted D) (next : Volume) (r : Result (Unit {0}) VolumeFault) → old.up ≡ true → Commits state old next r new → OnOk r (new.up ≡ true)
stays_up state old new next (Ok u) up h = ap (λ v. v.up) h.ok ∙ up
stays_up state old new next (Err x) up h = tt

-- a call that commits
pub done_commit : {D : Type 0} (state : D → DiskState) (call : Call) (old new : Mounted D) (next : Volume) (r : Result (Unit {0}) VolumeFault) → old.up ≡ true → Commits state old next r new
    → Answers call (plain state old) r → (OnOk r ((new.volume ≡ next) × SameBlocks NoBlock (state old.disk).seen (state new.disk).seen) → OnOk r (Assigns (state old.disk).told call (plain state old) (plain state new)))
    → IsDone state call old r new
done_commit state call old new next r up h answers assigns = record {
  answers = answers;
  assigned = assigns (committed state old new next r h);
  up = stays_up state old new next r up h;
  told = h.any_moment.told;
}

-- a call that is refused changes nothing
pub refused_done : {D : Type 0} (state : D → DiskState) (call : Call) (old new : Mounted D) (r : Result (Unit {0}) VolumeFault) (fault : VolumeFault) → r ≡ Err fault → new ≡ old → Answers call (plain state old) r → IsDone state call old r new
refused_done state call old new r fault why same answers = record {
  answers = answers;
  assigned = subst (λ (o : Result (Unit {0}) VolumeFault). OnOk o (Assigns (state old.disk).told call (plain state old) (plain state new))) (sym why) tt;
  up = subst (λ (o : Result (Unit {0}) VolumeFault). OnOk o (new.up ≡ true)) (sym why) tt;
  told = ap (λ v. (state v.disk).told) same;
}

abbrev pub IsWritten : {D : Type 0} → (D → DiskState) → ℕ → List ℕ → Mounted D → Mounted D → Type 0
IsWritten state at bytes old new =
    (b : Block) × IsLeastFree old.volume b.tag × (new ≡ record old { disk = new.disk; volume = written old.volume at b })
    × (IsTrue (state old.disk).told → b.bytes ≡ bytes)
    × (IsTrue (state old.disk).told → block_at (state new.disk).seen b.tag ≡ bytes)
    × (b.tag ≡ least_free old.volume)

pub done_write : {D : Type 0} (state : D → DiskState) (at : ℕ) (block : Bytes) (old new : Mounted D) (r : Result (Unit {0}) VolumeFault) → old.up ≡ true
    → RefusesOrFails (write_refusal old.volume at) r → OnOk r (IsWritten state at block.0 old new) → ((n : ℕ) → IsLeastFree old.volume n → KeepsBlocks (λ k. k ≡ n) (state old.disk) (state new.disk))
    → (state new.disk).told ≡ (state old.disk).told → IsDone state (calls.Write at block) old r new
unfolding Assigns Answers
done_write state at block old new (Ok u) up refused ok blocks told = record {
  answers = refused;
  assigned = (ok.0, ok.1, ok.3, λ t. ok.4 t ∙ sym (ok.3 t), ap (λ v. v.volume) ok.2, (blocks ok.0.tag ok.1).seen);
  up = ap (λ v. v.up) ok.2 ∙ up;
  told = told;
}
done_write state at block old new (Err x) up refused ok blocks told = record { answers = refused; assigned = tt; up = tt; told = told }

pub done_land : {D : Type 0} (state : D → DiskState) (n : ℕ) (block : Bytes) (old new : Mounted D) (r : Result (Unit {0}) VolumeFault) → old.up ≡ true
    → OnErr r (r ≡ Err DiskFault) → OnOk r (new ≡ record old { disk = new.disk }) → OnOk r (IsTrue (state old.disk).told → block_at (state new.disk).seen n ≡ block.0) → KeepsBlocks (λ k. k ≡ n) (state old.disk) (state new.disk)
    → IsDone state (calls.Land n block) old r new
unfolding Assigns Answers
done_land state n block old new (Ok u) up refused ok here kept = record {
  answers = refused;
  assigned = (ap (λ v. v.volume) ok, record { here = here; others = kept.seen });
  up = ap (λ v. v.up) ok ∙ up;
  told = kept.any_moment.told;
}
done_land state n block old new (Err x) up refused ok here kept = record { answers = refused; assigned = tt; up = tt; told = kept.any_moment.told }

-- a call that changes neither the volume nor what its disk reads
same_plain : {D : Type 0} (state : D → DiskState) (old new : Mounted D) → new ≡ record old { disk = new.disk } → (state new.disk).seen ≡ (state old.disk).seen → plain state new ≡ plain state old
same_plain state old new is seen =
    let build : Volume → disk.Image → Plain = λ v c. record { volume = v; reads = c } in
    ap (λ (v : Volume). build v (state new.disk).seen) (ap (λ v. v.volume) is) ∙ ap (λ (c : disk.Image). build old.volume c) seen

unchanged : {D : Type 0} (state : D → DiskState) (old new : Mounted D) (r : Result (Unit {0}) VolumeFault) → OnOk r (new ≡ record old { disk = new.disk }) → (state new.disk).seen ≡ (state old.disk).seen → OnOk r (plain state new ≡ plain state old)
unchanged state old new (Ok u) is seen = same_plain state old new is seen
unchanged state old new (Err x) is seen = tt

still_up : {D : Type 0} (old new : Mounted D) (r : Result (Unit {0}) VolumeFault) → old.up ≡ true → OnOk r (new ≡ record old { disk = new.disk }) → OnOk r (new.up ≡ true)
still_up old new (Ok u) up is = ap (λ v. v.up) is ∙ up
still_up old new (Err x) up is = tt

module _ {D : Type 0} (state : D → DiskState) (old new : Mounted D) (r : Result (Unit {0}) VolumeFault) (up : old.up ≡ true) (ok : OnOk r (new ≡ record old { disk = new.disk }))
    (seen : (state new.disk).seen ≡ (state old.disk).seen) (told : (state new.disk).told ≡ (state old.disk).told) where
  pub done_sync : OnErr r (r ≡ Err DiskFault) → IsDone state calls.Sync old r new
  unfolding Assigns Answers
  done_sync refused = record { answers = refused; assigned = unchanged state old new r ok seen; up = still_up old new r up ok; told = told }

  pub done_fetch : (n : ℕ) → OnErr r (r ≡ Err DiskFault) → IsDone state (calls.Fetch n) old r new
  unfolding Assigns Answers
  done_fetch n refused = record { answers = refused; assigned = unchanged state old new r ok seen; up = still_up old new r up ok; told = told }

  pub done_read : (view : View) (at : ℕ) → RefusesOrFails (read_refusal old.volume view at) r → IsDone state (calls.Read view at) old r new
  unfolding Assigns Answers
  done_read view at refused = record { answers = refused; assigned = unchanged state old new r ok seen; up = still_up old new r up ok; told = told }

revert_done : {D : Type 0} (state : D → DiskState) (ident : Ident) (drop_newer : Bool) (family : ℕ) (old new : Mounted D) (r : Result (Unit {0}) VolumeFault) (b : Bool) → has old.volume.snapshots ident ≡ b → old.up ≡ true
    → Refuses (revert_refusal old.volume ident) r → (r ≡ Err NoSnapshot → new ≡ old)
    → (has old.volume.snapshots ident ≡ true → (next : Volume) × IsReverted old.volume ident drop_newer family next × Commits state old next r new) → IsDone state (calls.Revert ident drop_newer family) old r new
unfolding Assigns Answers
revert_done state ident drop_newer family old new r true e up refused unchanged commits =
    let made = commits e in
    done_commit state (calls.Revert ident drop_newer family) old new made.0 r up made.2 refused (assigns r made.0 made.1)
  where
    assigns : (o : Result (Unit {0}) VolumeFault) (next : Volume) → IsReverted old.volume ident drop_newer family next → OnOk o ((new.volume ≡ next) × SameBlocks NoBlock (state old.disk).seen (state new.disk).seen)
        → OnOk o (IsReverted old.volume ident drop_newer family new.volume × SameBlocks NoBlock (state old.disk).seen (state new.disk).seen)
    assigns (Ok u) next is h = (subst (IsReverted old.volume ident drop_newer family) (sym h.0) is, h.1)
    assigns (Err x) next is h = tt
revert_done state ident drop_newer family old new r false e up refused unchanged commits =
    let why : r ≡ Err NoSnapshot = subst (λ (b : Bool). Refuses (cond b None (Some NoSnapshot)) r) e refused in
    let same : new ≡ old = unchanged why in
    refused_done state (calls.Revert ident drop_newer family) old new r NoSnapshot why same refused

pub done_revert : {D : Type 0} (state : D → DiskState) (ident : Ident) (drop_newer : Bool) (family : ℕ) (old new : Mounted D) (r : Result (Unit {0}) VolumeFault) → old.up ≡ true
    → Refuses (revert_refusal old.volume ident) r → (r ≡ Err NoSnapshot → new ≡ old)
    → (has old.volume.snapshots ident ≡ true → (next : Volume) × IsReverted old.volume ident drop_newer family next × Commits state old next r new) → IsDone state (calls.Revert ident drop_newer family) old r new
done_revert state ident drop_newer family old new r up refused unchanged commits = revert_done state ident drop_newer family old new r (has old.volume.snapshots ident) refl up refused unchanged commits

-- a snapshot of the identity stands
pub done_taken : {D : Type 0} (state : D → DiskState) (head : Head) (old : Mounted D) → has old.volume.snapshots head.ident ≡ true → IsDone state (calls.Snapshot head) old (Err NameTaken) old
unfolding Assigns Answers
done_taken state head old e = record {
  answers = inl (subst (λ (b : Bool). Refuses (cond b (Some NameTaken) (snapshot_refusal old.volume head.ident head.name)) (Err NameTaken)) (sym e) refl);
  assigned = tt;
  up = tt;
  told = refl;
}

pub done_snapshot : {D : Type 0} (state : D → DiskState) (h k : Head) (old new : Mounted D) (r : Result (Unit {0}) VolumeFault) → h ≡ k → old.up ≡ true → has old.volume.snapshots k.ident ≡ false
    → Refuses (snapshot_refusal old.volume h.ident h.name) r → Commits state old (snapped old.volume h) r new → IsDone state (calls.Snapshot k) old r new
unfolding Assigns Answers
done_snapshot state h k old new r is up stands refused commits =
    done_commit state (calls.Snapshot k) old new (snapped old.volume k) r up (subst (λ (x : Head). Commits state old (snapped old.volume x) r new) is commits)
    (inl (subst (λ (b : Bool). Refuses (cond b (Some NameTaken) (snapshot_refusal old.volume k.ident k.name)) r) (sym stands) (subst (λ (x : Head). Refuses (snapshot_refusal old.volume x.ident x.name) r) is refused))) (λ x. x)

abbrev pub SameSide : Result Side VolumeFault → Result Side VolumeFault → Type 0
SameSide x y = x ≡ y

pub same_fault : (f : VolumeFault) → SameSide (Err f) (Err DiskFault) → f ≡ DiskFault
same_fault f e = cc

pub no_memory_snapshot : {D : Type 0} (state : D → DiskState) (head : Head) (old : Mounted D) → IsDone state (calls.Snapshot head) old (Err OutOfMemory) old
unfolding Assigns Answers
no_memory_snapshot state head old = record { answers = inr refl; assigned = tt; up = tt; told = refl }

pub no_memory_adopt : {D : Type 0} (state : D → DiskState) (head : Head) (map : Vec ℕ Global) (family : ℕ) (drops : Vec Ident Global) (old : Mounted D) → IsDone state (calls.Adopt head map family drops) old (Err OutOfMemory) old
unfolding Assigns Answers
no_memory_adopt state head map family drops old = record { answers = inr refl; assigned = tt; up = tt; told = refl }

pub done_adopt : {D : Type 0} (state : D → DiskState) (h k : Head) (map : Vec ℕ Global) (items : List ℕ) (family : ℕ) (drops : Vec Ident Global) (gone : List Ident) (old new : Mounted D) (r : Result (Unit {0}) VolumeFault)
    → k ≡ h → items ≡ map.items → gone ≡ drops.items → old.up ≡ true → Refuses (adopt_refusal old.volume (snapshot_of k (image_of (state old.disk).seen items)) gone) r
    → Commits state old (adopted old.volume (snapshot_of k (image_of (state old.disk).seen items)) family gone) r new → IsDone state (calls.Adopt h map family drops) old r new
unfolding Assigns Answers
done_adopt state h k map items family drops gone old new r head numbers dropped up refused commits =
    let seen = (state old.disk).seen in
    let refused_h = subst (λ (x : Head). Refuses (adopt_refusal old.volume (snapshot_of x (image_of seen items)) gone) r) head refused in
    let refused_m = subst (λ (ms : List ℕ). Refuses (adopt_refusal old.volume (snapshot_of h (image_of seen ms)) gone) r) numbers refused_h in
    let refused_d = subst (λ (is : List Ident). Refuses (adopt_refusal old.volume (snapshot_of h (image_of seen map.items)) is) r) dropped refused_m in
    let commits_h = subst (λ (x : Head). Commits state old (adopted old.volume (snapshot_of x (image_of seen items)) family gone) r new) head commits in
    let commits_m = subst (λ (ms : List ℕ). Commits state old (adopted old.volume (snapshot_of h (image_of seen ms)) family gone) r new) numbers commits_h in
    let commits_d = subst (λ (is : List Ident). Commits state old (adopted old.volume (snapshot_of h (image_of seen map.items)) family is) r new) dropped commits_m in
    done_commit state (calls.Adopt h map family drops) old new (adopted old.volume (snapshot_of h (image_of seen map.items)) family drops.items) r up commits_d (inl refused_d) (λ x. x)

-- without a commit whose outcome is not known, the volume is the one before
before_side : (side : Side) (v w : Volume) (after : Option Volume) → after ≡ None → of_side side v after ≡ Some w → w ≡ v
before_side Before v w after none is = cc
before_side After v w after none is = absurd (cc)

pub done_restart : {D : Type 0} (state : D → DiskState) (old new : Mounted D) (side : Side) → old.after ≡ None → IsRestarted state old side new → (state new.disk).told ≡ (state old.disk).told → IsDone state calls.Restart old (Ok tt) new
unfolding Assigns Answers
done_restart state old new side none h told =
    let same = before_side side old.volume h.0 old.after none h.1 in record {
      answers = tt;
      assigned = (h.3 ∙ ap (λ (v : Volume). bare (opened v)) same, λ t. h.4 t ∙ ap opened same);
      up = ap (λ v. v.up) h.2;
      told = told;
    }

pub failed_restart : {D : Type 0} (state : D → DiskState) (old new : Mounted D) → (state new.disk).told ≡ (state old.disk).told → IsDone state calls.Restart old (Err DiskFault) new
unfolding Assigns Answers
failed_restart state old new told = record { answers = refl; assigned = tt; up = tt; told = told }

-- one call more
pub assigned_next : (told : Bool) (cs : List Call) (c : Call) (old mid new : Plain) → AssignsAll told cs old mid → Assigns told c mid new → AssignsAll told (cs ++ c ∷ []) old new
assigned_next told [] c old mid new all one = (new, subst (λ v. Assigns told c v new) all one, refl)
assigned_next told (d ∷ cs) c old mid new all one = (all.0, all.1, assigned_next told cs c all.0 mid new all.2 one)

-- calls that ask for nothing are ready
pub ready : (told : Bool) (cs : List Call) (p : Plain) → AskNothing cs → AreReady told cs p
ready told [] p asked = tt
ready told (c ∷ cs) p asked = (asked.0 p.volume, λ mid made. ready told cs mid asked.1)

-- the calls behind those that were made are ready
pub ready_then : (told : Bool) (cs ds : List Call) (old mid : Plain) → AreReady told (cs ++ ds) old → AssignsAll told cs old mid → AreReady told ds mid
ready_then told [] ds old mid ready all = subst (λ v. AreReady told ds v) (sym all) ready
ready_then told (c ∷ cs) ds old mid ready all = ready_then told cs ds all.0 mid (ready.1 all.0 all.1) all.2

-- the calls that were made were answered Ok
pub record WereMade (told : Bool) (cs : List Call) (old mid : Plain) : Type 0 where
  pub made : (later : List Call) (r : Result (Unit {0}) VolumeFault) → AnswersAll told later mid r → AnswersAll told (cs ++ later) old r

pub none_made : (told : Bool) (old : Plain) → WereMade told [] old old
none_made told old = record { made = λ later r h. h }

pub made_next : (told : Bool) (cs : List Call) (c : Call) (old mid new : Plain) → WereMade told cs old mid → Answers c mid (Ok tt) → Assigns told c mid new → WereMade told (cs ++ c ∷ []) old new
made_next told cs c old mid new before answers one = record {
  made = λ later r h. subst (λ (l : List Call). AnswersAll told l old r) (sym (shift cs c later)) (before.made (c ∷ later) r (inr (new, answers, one, h)));
}
  where
    shift : (xs : List Call) (x : Call) (ys : List Call) → (xs ++ x ∷ []) ++ ys ≡ xs ++ x ∷ ys
    shift [] x ys = refl
    shift (z ∷ xs) x ys = ap (λ (l : List Call). z ∷ l) (shift xs x ys)

-- the call that is not answered Ok gives the answer of all
pub done_err : {D : Type 0} (state : D → DiskState) (told : Bool) (cs before later : List Call) (c : Call) (old mid new : Mounted D) (r : Result (Unit {0}) VolumeFault) (fault : VolumeFault) → r ≡ Err fault → told ≡ (state old.disk).told
    → cs ≡ before ++ c ∷ later → WereMade told before (plain state old) (plain state mid) → IsDone state c mid r new → (state mid.disk).told ≡ (state old.disk).told → AreDone state cs old r new
done_err state told cs before later c old mid new r fault why is split made done same =
    let failed : IsErr r = subst IsErr (sym why) refl in
    let all : AnswersAll told (before ++ c ∷ later) (plain state old) r = made.made (c ∷ later) r (inl (failed, done.answers)) in record {
      answers = subst (λ (b : Bool). AnswersAll b cs (plain state old) r) is (subst (λ (l : List Call). AnswersAll told l (plain state old) r) (sym split) all);
      assigned = subst (λ (o : Result (Unit {0}) VolumeFault). OnOk o (AssignsAll (state old.disk).told cs (plain state old) (plain state new))) (sym why) tt;
      up = subst (λ (o : Result (Unit {0}) VolumeFault). OnOk o (new.up ≡ true)) (sym why) tt;
      told = done.told ∙ same;
    }

-- the calls before one, that one, and those behind it
pub split_at : (j : ℕ) (calls : List Call) (item : Call) → j < length calls → item ≡ get_or calls j item → calls ≡ take j calls ++ item ∷ drop (suc j) calls
split_at j calls item lt is = sym (take-append-drop j calls) ∙ ap (λ (l : List Call). take j calls ++ l) (drop-cons calls j item lt ∙ ap (λ (x : Call). x ∷ drop (suc j) calls) (sym is))

-- all calls were made
pub done_all : {D : Type 0} (state : D → DiskState) (cs : List Call) (j : ℕ) (old new : Mounted D) → length cs ≤ j → new.up ≡ true → (state new.disk).told ≡ (state old.disk).told
    → AssignsAll (state old.disk).told (take j cs) (plain state old) (plain state new) → WereMade (state old.disk).told (take j cs) (plain state old) (plain state new) → AreDone state cs old (Ok tt) new
done_all state cs j old new end up told assigned made =
    let whole : take j cs ≡ cs = take_all j cs end in record {
      answers = subst (λ (l : List Call). AnswersAll (state old.disk).told l (plain state old) (Ok tt)) (append-nil (take j cs) ∙ whole) (made.made [] (Ok tt) refl);
      assigned = subst (λ (l : List Call). AssignsAll (state old.disk).told l (plain state old) (plain state new)) whole assigned;
      up = up;
      told = told;
    }
