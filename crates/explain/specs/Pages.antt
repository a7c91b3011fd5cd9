-- What is said of a number: its word, what it means and what an author can do. A page of five lines for each number, 1 to 21.
use Rattle.std.specs.Prelude.{ℕ, zero, suc, ◌*◌, List, [], ◌∷◌, ◌++◌, map, take, drop}
use Prim.Native.String as S
use Rattle.rules.specs.Text.{bytes, lf, join}

unfoldable pub pages : List S.String
pages =
    "1 overlong" ∷
    "Refused: too long. A script has at most 16,384 bytes and a list at most 32,768" ∷
    "turns; an input, which is both together, has at most 65,536 bytes." ∷
    "What to do: shorten the script, as by one method for lines that come twice, or" ∷
    "end the list earlier. Nothing was read, so the line that is told is 0." ∷
    "2 stray byte" ∷
    "Refused: a byte that no script has. A script is written in a to z, 0 to 9, the" ∷
    "two brackets, space and LF: no capitals, no tabs, no comments." ∷
    "What to do: look for such a byte in the line that is told. If it looks clean, it" ∷
    "may end in CR and LF, as other systems save text; save it with LF alone." ∷
    "3 malformed" ∷
    "Refused: a line that is no form, stands out of its place or lacks its LF; as the" ∷
    "last line of an input, anything but a list of turns." ∷
    "What to do: lay the line beside the forms, space by space; a number has no zero" ∷
    "before it. Kinds come first. A copy needs '(script 2)' as the first line." ∷
    "4 over count" ∷
    "Refused: too many, or a number over 255. A script has 32 kinds, 64 blocks and" ∷
    "512 lets, a block 16 slots, a kind 4 fields and 4 methods, a new 4 values." ∷
    "What to do: count up to the line that is told. Work that is too much for one" ∷
    "block goes into a method or a thread of its own." ∷
    "5 unbound" ∷
    "Refused: a slot is used that is not yet filled in its block. Each let fills the" ∷
    "next one. At first a thread has slot 0, its channel; a method 0 and 1." ∷
    "What to do: number the slots from the block's first line, and use one that is" ∷
    "filled by then, or move the line below the let that fills it." ∷
    "6 self taken" ∷
    "Refused: a method takes slot 0. That is self, the object that was called, and" ∷
    "it stays in its slot: it is read and never taken." ∷
    "What to do: write (read 0). A method on an iso object cannot hand it on; what" ∷
    "the object holds comes out of it by a swap." ∷
    "7 unfinished" ∷
    "Refused: there is no block, or the last one has no give. The line that is told" ∷
    "is the number of lines, so that it names the place where one is missing." ∷
    "What to do: close the block with (give W). If it was closed when the script was" ∷
    "written, the rest of the file is lost; fetch it again." ∷
    "8 dangling" ∷
    "Refused: a line names what is not there: no such kind, no such block, a block of" ∷
    "the other sort, or more or fewer values than the kind has fields." ∷
    "What to do: number kinds and blocks from 0 as they are written. Block 0 is a" ∷
    "thread; spawn names a thread, and a kind's methods are method blocks." ∷
    "9 short table" ∷
    "Refused: a host lent a table, a list or a buffer that is too short. The programs" ∷
    "lend their own and never say this." ∷
    "What to do, for whoever wrote the host: a table has 8,192 words, the list of a" ∷
    "report 256, and a script is written into 16,384 bytes; box.h has them in bytes." ∷
    "10 absent" ∷
    "Stopped: a slot that is used holds nothing. A take emptied it before, or it" ∷
    "never held a value, as slot 0 of the first thread." ∷
    "What to do: find the earlier take of that slot in the block that is told, and" ∷
    "make it a read, or use the slot that has the value now." ∷
    "11 no field" ∷
    "Stopped: the object has no field with that number. A kind with F fields has the" ∷
    "fields 0 to F less one." ∷
    "What to do: see which object the slot holds in this run; it may be of another" ∷
    "kind than the line has in mind. Else count the fields of its kind." ∷
    "12 no method" ∷
    "Stopped: the kind of the object has no method with that number. Methods are" ∷
    "numbered from 0 in the kind's own list, whatever their blocks are." ∷
    "What to do: see which object the slot holds in this run; it may be of another" ∷
    "kind than the line has in mind. Else count its kind's list (does B ..)." ∷
    "13 wrong thing" ∷
    "Stopped: a channel where an object must be, or an object where a channel must" ∷
    "be. Only send and recv work on channels; fields and messages are objects." ∷
    "What to do: see what the slot holds in this run. A send gives its channel back," ∷
    "not the message; a spawn gives a channel." ∷
    "14 permission" ∷
    "Stopped: a capability forbids it. An imm object is never changed, no object" ∷
    "holds one above its own (imm, iso, local, unsafe, rising), no local is sent." ∷
    "What to do: what is to change must not be imm; what is to be held or sent must" ∷
    "be low enough: make it imm or iso, or send a copy of it." ∷
    "15 cast" ∷
    "Stopped: the object has another capability than the cast names. A cast asks and" ∷
    "never changes it." ∷
    "What to do: see where the object was made, by a new or a copy, and name its" ∷
    "capability there or here. To have another, make a copy with it." ∷
    "16 used up" ∷
    "Stopped: there is no room for more. A run has at most 256 objects, 16 threads" ∷
    "and 16 frames of calls in each thread; a copy needs room for all that it makes." ∷
    "What to do: objects and threads are never given back, so make fewer, and let" ∷
    "each do more. A frame is given back by its give: end a call before the next." ∷
    "17 no thread" ∷
    "Not reported: the thread of a reach report was never started. The run itself was" ∷
    "made." ∷
    "What to do: threads are numbered from 0 as they are spawned, whatever their" ∷
    "blocks are. Ask for one that the printed run lists, or add turns to start it." ∷
    "18 no script" ∷
    "Not written: no script reads to the table that was to be written back. Of box" ∷
    "strip it says that the script is too long once every capability is unsafe." ∷
    "What to do: shorten the script. For whoever wrote a host: lend the table as" ∷
    "box_read or box_run left it, every byte of it." ∷
    "19 alias" ∷
    "Stopped: an iso object would be held twice. It is read, or it stands in a field" ∷
    "that is read." ∷
    "What to do: take it, so that its slot is empty afterwards; get it out of a field" ∷
    "by a swap. If several must hold it, make it imm, or copy it." ∷
    "20 foreign" ∷
    "Stopped: something is local to another thread: what is worked on, what is to be" ∷
    "held by a new object or a local, or what a copy meets." ∷
    "What to do: work on it in the thread that made it. What goes between threads is" ∷
    "imm or iso; before it is sent, that thread can copy a local as imm." ∷
    "21 no object" ∷
    "Not reported: the object whose holders were asked for was never made. The run" ∷
    "itself was made." ∷
    "What to do: objects are numbered from 0 as they are made, copies too. Ask for" ∷
    "one that the printed run lists, or add turns to make it." ∷
    []

abbrev pub line_of : S.String → List ℕ
line_of s = bytes s ++ (lf ∷ [])

-- the page of a number; none for 0 and past the last
unfoldable pub page : ℕ → List ℕ
page zero = []
page (suc n) = join (take 5 (drop (5 * n) (map line_of pages)))
