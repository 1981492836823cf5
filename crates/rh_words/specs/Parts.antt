-- Where each part of a shared table stands in its words.
use Rattle.std.specs.Prelude.{ℕ, ◌+◌, ◌*◌, ◌^◌, ◌<◌}
use Rattle.rh_words.specs.declared.limits.TheConstants.{MAX_ROOM, HEAD_WORDS, WORDS_PER_ENTRY, MARK_WORDS}
use Rattle.rh_words.specs.declared.shape.Rooms.{Rooms}
use Rattle.rh_words.specs.declared.shape.Shape.{Shape}
use Rattle.rh_words.specs.declared.shape.Part.{Part}
use Rattle.rh_words.specs.declared.shape.Part.TheVariants.{Cell, Control, Serial, Length, EntryCell, EntryOld, EntryNew, MarkSerial, MarkDesc, MarkEntry, Reason, Counter}

-- the greatest rooms
abbrev pub usual_rooms : Rooms
usual_rooms = record { descriptors = MAX_ROOM; marks = MAX_ROOM }

abbrev pub cell_count : Shape → ℕ
cell_count z = 2 ^ z.bits

-- how many words the entries of a row have: a descriptor has at most one for each cell
abbrev pub entry_words : Shape → ℕ
entry_words z = WORDS_PER_ENTRY * cell_count z

-- how many words the rows of one worker have: those of its descriptor row, of its mark row, and its reasons to each owner
abbrev pub row_count : Shape → ℕ
row_count z = HEAD_WORDS + entry_words z + MARK_WORDS + z.workers

-- the cells come first, then the rows of each worker, then the counter
abbrev pub word_count : Shape → ℕ
word_count z = cell_count z + z.workers * row_count z + 1

-- the word of a worker's rows that has this number among them
abbrev pub row_index : Shape → (worker row : ℕ) → ℕ
row_index z worker row = cell_count z + (worker * row_count z + row)

-- the word of an entry, that of the mark row, and that of the reason to an owner
abbrev pub entry_row : (entry word : ℕ) → ℕ
entry_row entry word = HEAD_WORDS + (WORDS_PER_ENTRY * entry + word)

abbrev pub mark_row : Shape → (word : ℕ) → ℕ
mark_row z word = HEAD_WORDS + entry_words z + word

abbrev pub reason_row : Shape → (owner : ℕ) → ℕ
reason_row z owner = HEAD_WORDS + entry_words z + MARK_WORDS + owner

-- With 3 bits and two workers there are 8 + 2 * 32 + 1 = 73 words. Worker 0 has its control in word 8, its row in 9 to 34 with
-- entry 0 in 11 to 13, its mark row in 35 to 37 and its reasons in 38 and 39. Worker 1 begins at 40, and the counter is word 72.
abbrev pub index_of : Shape → Part → ℕ
index_of z (Cell c) = c
index_of z (Control worker) = row_index z worker 0
index_of z (Serial worker) = row_index z worker 1
index_of z (Length worker) = row_index z worker 2
index_of z (EntryCell worker entry) = row_index z worker (entry_row entry 0)
index_of z (EntryOld worker entry) = row_index z worker (entry_row entry 1)
index_of z (EntryNew worker entry) = row_index z worker (entry_row entry 2)
index_of z (MarkSerial worker) = row_index z worker (mark_row z 0)
index_of z (MarkDesc worker) = row_index z worker (mark_row z 1)
index_of z (MarkEntry worker) = row_index z worker (mark_row z 2)
index_of z (Reason worker owner) = row_index z worker (reason_row z owner)
index_of z Counter = cell_count z + z.workers * row_count z

-- the table has this part
abbrev pub IsPart : Shape → Part → Type 0
IsPart z (Cell c) = c < cell_count z
IsPart z (Control worker) = worker < z.workers
IsPart z (Serial worker) = worker < z.workers
IsPart z (Length worker) = worker < z.workers
IsPart z (EntryCell worker entry) = (worker < z.workers) × (entry < cell_count z)
IsPart z (EntryOld worker entry) = (worker < z.workers) × (entry < cell_count z)
IsPart z (EntryNew worker entry) = (worker < z.workers) × (entry < cell_count z)
IsPart z (MarkSerial worker) = worker < z.workers
IsPart z (MarkDesc worker) = worker < z.workers
IsPart z (MarkEntry worker) = worker < z.workers
IsPart z (Reason worker owner) = (worker < z.workers) × (owner < z.workers)
IsPart z Counter = Unit {0}
