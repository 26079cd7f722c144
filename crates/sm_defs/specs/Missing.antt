-- What a leg of a transfer costs, and what lands.
use Rattle.std.specs.Prelude.{ℕ, suc, cond, ◌==◌, ◌&&◌, nat_lt, not, Bool, List, [], ◌∷◌, length, map}
use Rattle.std.specs.List.{filter, flat_map}
use Rattle.sm_defs.specs.Image.{Block, Image, hole, tags, stands}
use Rattle.sm_defs.specs.Volume.{Snapshot, image_of}

-- a number into an ascending list, which has each number once
abbrev pub insert_once : ℕ → List ℕ → List ℕ
insert_once t [] = t ∷ []
insert_once t (u ∷ us) = cond (t == u) (u ∷ us) (cond (nat_lt t u) (t ∷ u ∷ us) (u ∷ insert_once t us))

-- the numbers of a list in ascending order, each once
abbrev pub ascending : List ℕ → List ℕ
ascending [] = []
ascending (t ∷ ts) = insert_once t (ascending ts)

-- the tags of all images of the snapshots
abbrev pub tags_in : List Snapshot → List ℕ
tags_in ss = flat_map tags (map image_of ss)

-- a block has the tag, and no destination snapshot has it
abbrev pub is_missing_tag : List Snapshot → ℕ → Bool
is_missing_tag destination t = not (t == 0) && not (stands t (tags_in destination))

-- for a mirror: the tags of the leg that the destination's snapshots do not have
abbrev pub missing_tags : Image → List Snapshot → List ℕ
missing_tags leg destination = ascending (filter (is_missing_tag destination) (tags leg))

abbrev pub mirror_cost : Image → List Snapshot → ℕ
mirror_cost leg destination = length (missing_tags leg destination)

-- a vault's base as each side has it, with numbers of its own; both are empty where there is no base
pub record Bases : Type 0 where
  pub at_source : Image
  pub at_destination : Image

-- of an image that may be at its end, which has only holes from there on
abbrev pub first_block : Image → Block
first_block [] = hole
first_block (b ∷ bs) = b

abbrev pub first_tag : Image → ℕ
first_tag [] = 0
first_tag (b ∷ bs) = b.tag

abbrev pub rest : {X : Type 0} → List X → List X
rest [] = []
rest (x ∷ xs) = xs

-- a block has the tag, and the base has another there
abbrev pub is_missing_at : ℕ → ℕ → Bool
is_missing_at t base = not (t == 0) && not (t == base)

-- the leg begins at the place
abbrev pub missing_from : ℕ → Image → Image → List ℕ
missing_from at [] base = []
missing_from at (b ∷ bs) base = cond (is_missing_at b.tag (first_tag base)) (at ∷ missing_from (suc at) bs (rest base)) (missing_from (suc at) bs (rest base))

-- for a vault: the places where the leg has a block that the source's base does not have there
abbrev pub missing_places : Image → Bases → List ℕ
missing_places leg bases = missing_from 0 leg bases.at_source

abbrev pub vault_cost : Image → Bases → ℕ
vault_cost leg bases = length (missing_places leg bases)

abbrev pub first_number : List ℕ → ℕ
first_number [] = 0
first_number (t ∷ ts) = t

-- the same bytes at a number of the destination
abbrev pub moved : Block → ℕ → Block
moved b t = record { tag = t; bytes = b.bytes }

abbrev pub landed_from : Image → Image → Image → List ℕ → Image
landed_from [] source destination free = []
landed_from (b ∷ bs) source destination free =
    cond (is_missing_at b.tag (first_tag source)) (moved b (first_number free) ∷ landed_from bs (rest source) (rest destination) (rest free))
    (cond (b.tag == 0) hole (first_block destination) ∷ landed_from bs (rest source) (rest destination) free)

-- what a vault's leg becomes: each missing block takes the next free number, a hole stays one, and elsewhere
-- stands the destination's block of the base (a mirror's leg lands as it is, at the source's numbers)
abbrev pub vault_landing : Image → Bases → List ℕ → Image
vault_landing leg bases free = landed_from leg bases.at_source bases.at_destination free
