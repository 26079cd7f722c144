-- An event that shows no bytes is answered the same where blocks are read as zeros.
use Rattle.std.proofs.Common.{◌≡◌, true, false, Some, option_map, refl, ap}
use Rattle.sm_model.specs.declared.event.Event.{Event}
use Rattle.sm_model.specs.declared.event.Event.TheVariants as events
use Rattle.sm_defs.specs.World.{Up}
use Rattle.sm_model.specs.Answer.{answer}
use Rattle.sm_shape.specs.Blanked.{blanked}
use Rattle.laws_blank.specs.Blanking.{ShowsNoBytes, blanked_event, blanked_answer}
use Rattle.laws_blank.proofs.OfVolumes.{create_volume_blanked, write_blanked, snap_blanked, unsnap_blanked, cp_blanked}
use Rattle.laws_blank.proofs.OfPolicies.{create_policy_blanked, add_rule_blanked, set_clock_blanked}
use Rattle.laws_blank.proofs.OfRelations.{relate_blanked, set_quiesced_blanked, break_off_blanked, delete_blanked, release_blanked}
use Rattle.laws_blank.proofs.OfTransfers.{initialize_blanked, update_blanked, abort_blanked, resync_blanked}
use Rattle.laws_blank.proofs.OfReport.{show_volumes_blanked, show_snapshots_blanked, show_policies_blanked, show_relations_blanked, head_blanked, of_volume_blanked, of_relation_blanked}

pub commutes : (w : Up) (e : Event) → ShowsNoBytes e → answer (blanked w) (blanked_event e) ≡ option_map blanked_answer (answer w e)
unfolding answer blanked_event ShowsNoBytes
commutes w (events.CreateVolume path disk kind logical physical) s = ap Some (create_volume_blanked w path disk kind logical physical)
commutes w events.ShowVolumes s = ap Some (show_volumes_blanked w)
commutes w (events.Write path block fill) s = ap Some (write_blanked w path block fill)
commutes w (events.Snap path name label) s = ap Some (snap_blanked w path name label)
commutes w (events.Unsnap path name) s = ap Some (unsnap_blanked w path name)
commutes w (events.ShowSnaps path) s = ap Some (show_snapshots_blanked w path)
commutes w (events.CreatePolicy name kind) s = ap Some (create_policy_blanked w name kind)
commutes w (events.AddRule name label keep preserve) s = ap Some (add_rule_blanked w name label keep preserve)
commutes w events.ShowPolicies s = ap Some (show_policies_blanked w)
commutes w (events.Relate source destination policy) s = ap Some (relate_blanked w source destination policy)
commutes w (events.Initialize destination) s = ap Some (initialize_blanked w destination)
commutes w (events.Update destination) s = ap Some (update_blanked w destination)
commutes w (events.Quiesce destination) s = ap Some (set_quiesced_blanked w destination true)
commutes w (events.Resume destination) s = ap Some (set_quiesced_blanked w destination false)
commutes w (events.Abort destination hard) s = ap Some (abort_blanked w destination hard)
commutes w (events.Break destination) s = ap Some (break_off_blanked w destination)
commutes w (events.Resync destination) s = ap Some (resync_blanked w destination)
commutes w (events.Delete destination) s = ap Some (delete_blanked w destination)
commutes w (events.Release source destination) s = ap Some (release_blanked w source destination)
commutes w events.ShowRelations s = ap Some (show_relations_blanked w)
commutes w (events.Clock time) s = ap Some (set_clock_blanked w time)
commutes w (events.Cp path) s = ap Some (cp_blanked w path)
commutes w (events.Read path name block) s = absurd s
commutes w (events.Work shown) s = refl
commutes w events.Restart s = refl
commutes w events.Head s = ap Some (head_blanked w)
commutes w (events.VolumeLine volume) s = ap Some (of_volume_blanked w volume)
commutes w (events.Digest volume place) s = absurd s
commutes w (events.RelationLine relation) s = ap Some (of_relation_blanked w relation)
