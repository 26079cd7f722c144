-- What is known of a disk's content, and what each call does to it.
use Rattle.std.specs.Prelude.{◌≡◌, ℕ, List, [], ◌∷◌, length, Option, Some, None}
use Rattle.sm_disk.specs.Image.{Image, part}
use Rattle.sm_memdisk.specs.declared.Image.{Image as Choice}
use Rattle.sm_memdisk.specs.Past.{Note, Written, Synced, over, now_of, chosen}
use Rattle.sm_memdisk.specs.Pages.{Pages, image_of}

pub record Content : Type 0 where
  -- the length in bytes
  pub size : ℕ
  pub pages : Pages
  -- the recorded calls, the newest first
  pub past : List Note

-- what a read gives
abbrev pub seen_of : Content → Image
seen_of s = image_of s.pages

-- the content and the record are as they were
pub record IsSame (old new : Content) : Type 0 where
  pub size : new.size ≡ old.size
  pub seen : seen_of new ≡ seen_of old
  pub past : new.past ≡ old.past

-- these bytes stand at that place, and the record says what stood there before
pub record DoesWrite (old : Content) (at : ℕ) (bytes : List ℕ) (new : Content) : Type 0 where
  pub size : new.size ≡ old.size
  pub seen : seen_of new ≡ over (seen_of old) at bytes
  pub past : new.past ≡ record { deed = Written at (part (seen_of old) at (length bytes)); restart = None } ∷ old.past

-- the record has a sync more
pub record DoesSync (old new : Content) : Type 0 where
  pub size : new.size ≡ old.size
  pub seen : seen_of new ≡ seen_of old
  pub past : new.past ≡ record { deed = Synced; restart = None } ∷ old.past

-- a restart already noted stays
abbrev pub noted : Option Choice → Choice → Option Choice
noted None choice = Some choice
noted (Some earlier) choice = Some earlier

-- the newest call gets the restart, if none has followed it yet
abbrev pub restarted : Choice → List Note → List Note
restarted choice [] = []
restarted choice (n ∷ past) = record { deed = n.deed; restart = noted n.restart choice } ∷ past

-- the pending ranges have what was chosen
pub record DoesRestart (old : Content) (choice : Choice) (new : Content) : Type 0 where
  pub size : new.size ≡ old.size
  pub seen : seen_of new ≡ chosen choice (seen_of old) (now_of old.past (seen_of old))
  pub past : new.past ≡ restarted choice old.past
