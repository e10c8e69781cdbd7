-- What is announced of a file, and what those who follow it can reach.
use Rattle.std.specs.Prelude.{◌≡◌, ℕ, ◌+◌, ◌<◌, ◌≤◌, Option, Some, None, List, [], ◌∷◌, ◌++◌, length}
use Rattle.std.specs.List.{All, flat_map}
use Rattle.cap_base.specs.Effects.{Effect, created, byte, said}
use Rattle.cap_base.specs.Events.{Event, interface, packet}
use Rattle.cap_base.specs.declared.packet.Packet.{Packet}
use Rattle.pcapng_blocks.specs.declared.block.Block.{Block}
use Rattle.sync_pipe.specs.Texts.{IsSayable, message_text}
use Rattle.sync_pipe.specs.declared.said.Said.{Said}
use Rattle.sync_pipe.specs.declared.said.Said.TheVariants.{File, Count}
use Rattle.capture_desk.specs.declared.acts.Act.{Act}
use Rattle.capture_desk.specs.declared.acts.Act.TheVariants.{Create, Put, Finish, Remove, Say}
use Rattle.capture_desk.specs.Doing.{created_names, packet_of, effects_of_acts}
use Rattle.capture_desk.specs.Files.{text}
use Rattle.capture_desk.specs.Laws.{last_name}
use Rattle.capture_core.specs.Made.{BeginFile, bytes_put, block_packets}

-- ---- messages

-- the file that one more message names, or else the one that those before it named last
abbrev pub file_after : Option (List ℕ) → Said → Option (List ℕ)
file_after file (File name) = Some name
file_after file other = file

-- the file that messages name last, behind such a one
abbrev pub file_behind : Option (List ℕ) → List Said → Option (List ℕ)
file_behind file [] = file
file_behind file (m ∷ more) = file_behind (file_after file m) more

-- the file that the last message names which names one
abbrev pub last_file : List Said → Option (List ℕ)
last_file messages = file_behind None messages

-- how many packets of a file are counted behind one more message, which may name the next file
abbrev pub count_after : ℕ → Said → ℕ
count_after counted (File name) = 0
count_after counted (Count n) = counted + n
count_after counted other = counted

-- how many packets are counted behind messages
abbrev pub counted_behind : ℕ → List Said → ℕ
counted_behind counted [] = counted
counted_behind counted (m ∷ more) = counted_behind (count_after counted m) more

-- the sum of the counts behind the last message that names a file
abbrev pub counted : List Said → ℕ
counted messages = counted_behind 0 messages

-- What is known behind some acts: the file that was created last and how many packets were put into it, and the file that
-- the messages name last and how many packets they count of it.
pub record Known : Type 0 where
  pub created : Option (List ℕ)
  pub put : ℕ
  pub named : Option (List ℕ)
  pub counted : ℕ

-- before all acts
abbrev pub nothing_known : Known
nothing_known = record { created = None; put = 0; named = None; counted = 0 }

-- another file is created
abbrev pub after_creation : Known → List ℕ → Known
after_creation k name = record k { created = Some name; put = 0 }

-- a block is put, with so many packets
abbrev pub after_block : Known → ℕ → Known
after_block k packets = record k { put = k.put + packets }

-- a message is said
abbrev pub after_message : Known → Said → Known
after_message k m = record k { named = file_after k.named m; counted = count_after k.counted m }

-- A message is true: one that names a file names the one that was created last, before any packet is put into it; a count
-- makes the sum of the counts of this file the number of packets that were put into it, and is of 64 packets at most.
abbrev pub IsTrueOf : Known → Said → Type 0
IsTrueOf k (File name) = (k.created ≡ Some name) × (k.put ≡ 0)
IsTrueOf k (Count n) = (k.named ≡ k.created) × (k.counted + n ≡ k.put) × (n ≤ 64)
IsTrueOf k other = (k.named ≡ k.created) × (k.counted ≤ k.put)

-- Each message that is said is true of the acts before it.
abbrev pub MessagesAreTrue : Known → List Act → Type 0
MessagesAreTrue k [] = Unit {0}
MessagesAreTrue k (Create name ∷ more) = MessagesAreTrue (after_creation k name) more
MessagesAreTrue k (Put b ∷ more) = MessagesAreTrue (after_block k (length (packet_of (Put b)))) more
MessagesAreTrue k (Say bytes ∷ more) = (m : Said) × (bytes ≡ message_text m) × IsTrueOf k m × MessagesAreTrue (after_message k m) more
MessagesAreTrue k (Finish ∷ more) = MessagesAreTrue k more
MessagesAreTrue k (Remove name ∷ more) = MessagesAreTrue k more

-- the messages that acts say
abbrev pub AreSaid : List Said → List Act → Type 0
AreSaid messages [] = messages ≡ []
AreSaid messages (Say bytes ∷ more) = (m : Said) × (rest : List Said) × (messages ≡ m ∷ rest) × (bytes ≡ message_text m) × AreSaid rest more
AreSaid messages (other ∷ more) = AreSaid messages more

-- the bytes that were said
abbrev pub said_bytes : List Effect → List ℕ
said_bytes [] = []
said_bytes (said b ∷ more) = b ∷ said_bytes more
said_bytes (other ∷ more) = said_bytes more

-- a message that names a file, or counts packets
abbrev pub NamesOrCounts : Said → Type 0
NamesOrCounts (File name) = Unit {0}
NamesOrCounts (Count n) = Unit {0}
NamesOrCounts other = ⊥

-- All that was said so far are these messages, each whole. The last one names a file or counts, and its last byte was said
-- just now.
pub record EndsWithMessage (before : List Effect) (messages : List Said) : Type 0 where
  pub front : List Effect
  pub last : ℕ
  pub parts : before ≡ front ++ said last ∷ []
  pub earlier : List Said
  pub message : Said
  pub are : messages ≡ earlier ++ message ∷ []
  pub counts : NamesOrCounts message
  pub sayable : All IsSayable messages
  pub whole : said_bytes before ≡ flat_map message_text messages

-- ---- views

-- the names of the files that were created
abbrev pub created_in : List Effect → List (List ℕ)
created_in [] = []
created_in (created name ∷ more) = name ∷ created_in more
created_in (other ∷ more) = created_in more

-- the bytes that were put into the current file
abbrev pub bytes_now : List ℕ → List Effect → List ℕ
bytes_now bytes [] = bytes
bytes_now bytes (created name ∷ more) = bytes_now [] more
bytes_now bytes (byte b ∷ more) = bytes_now (bytes ++ b ∷ []) more
bytes_now bytes (other ∷ more) = bytes_now bytes more

-- A view is honest behind these effects, with the others still to come, where it shows of the current file all bytes that
-- were put into it, and only such as come to be put into it.
pub record IsHonest (before behind : List Effect) (shown : List ℕ) : Type 0 where
  pub early : List ℕ
  pub hidden : List ℕ
  pub no_less : shown ≡ bytes_now [] before ++ early
  pub no_other : bytes_now [] before ++ bytes_put behind ≡ shown ++ hidden

-- the packets among events
abbrev pub packet_events : List Event → List Packet
packet_events [] = []
packet_events (interface i ∷ more) = packet_events more
packet_events (packet p ∷ more) = p ∷ packet_events more

-- numbers below 256
abbrev pub AreBytes : List ℕ → Type 0
AreBytes text = All (λ b. b < 256) text

-- What a reader of files must give: more events for more bytes, and of the text of blocks that begin a file as many packets.
pub record ReadsFiles (events : List ℕ → List Event) : Type 0 where
  pub grows : (b c : List ℕ) → (more : List Event) × (events (b ++ c) ≡ events b ++ more)
  pub packets : (bs : List Block) → BeginFile bs → AreBytes (text bs) → length (packet_events (events (text bs))) ≡ length (block_packets bs)

-- The events of what is shown are the first ones of the file's, and they have at least the packets that are announced.
pub record Reaches (events : List ℕ → List Event) (announced : ℕ) (file shown : List ℕ) : Type 0 where
  pub later : List Event
  pub first : events file ≡ events shown ++ later
  pub enough : announced ≤ length (packet_events (events shown))

-- Behind acts that end with a message, with these effects still to come: the messages so far name the file that was created
-- last, and every honest view of it reaches what they count.
pub record ViewsReach (events : List ℕ → List Event) (before : List Act) (rest : List Effect) : Type 0 where
  pub messages : List Said
  pub are_said : AreSaid messages before
  pub named : last_file messages ≡ last_name (created_names before)
  pub reach : AreBytes (bytes_now [] (effects_of_acts before)) → (shown : List ℕ) → IsHonest (effects_of_acts before) rest shown → Reaches events (counted messages) (bytes_now [] (effects_of_acts before) ++ bytes_put rest) shown

-- Behind what was done so far, with these effects still to come: the messages so far name the file that was created last,
-- and every honest view of it reaches what they count.
pub record ReachedBy (events : List ℕ → List Event) (before rest : List Effect) (messages : List Said) : Type 0 where
  pub named : last_file messages ≡ last_name (created_in before)
  pub reach : AreBytes (bytes_now [] before) → (shown : List ℕ) → IsHonest before rest shown → Reaches events (counted messages) (bytes_now [] before ++ bytes_put rest) shown

-- Wherever a message that names a file or counts was just said whole, views reach what was announced, whatever comes.
abbrev pub FollowersReach : List Effect → Type 0
FollowersReach done = (events : List ℕ → List Event) → ReadsFiles events → (before rest : List Effect) (messages : List Said) → done ≡ before ++ rest → EndsWithMessage before messages → ReachedBy events before rest messages
