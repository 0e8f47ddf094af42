use Rattle.std.proofs.Common.{arith, codes, refl}
use Rattle.std.proofs.lemmas.Grind.{common_steps}
use Rattle.part_writer.proofs.JobTexts.{instr_added}
use Rattle.part_writer.proofs.instructions.add_instr.Goals as goal

pub returns-in-Set : goal.returns-in-Set
returns-in-Set c =
    instr_added c.add_list.result c.args.instr c.args.text.now.items c.add_list.new.text.items (codes "[\"set\"") _
    c.add_list.ensures (rw c.in-Set.is refl) (rw c.in-Set.is (grind (arith, common_steps, c.register.ensures)))

pub returns-in-Jz : goal.returns-in-Jz
returns-in-Jz c =
    instr_added c.add_list-in-Jz.result c.args.instr c.args.text.now.items c.add_list-in-Jz.new.text.items (codes "[\"jz\"") _
    c.add_list-in-Jz.ensures (rw c.in-Jz.is refl) (rw c.in-Jz.is (grind (arith, common_steps, c.register-in-Jz.ensures, c.from.ensures)))

pub returns-in-Jmp : goal.returns-in-Jmp
returns-in-Jmp c =
    instr_added c.add_list-in-Jmp.result c.args.instr c.args.text.now.items c.add_list-in-Jmp.new.text.items (codes "[\"jmp\"") _
    c.add_list-in-Jmp.ensures (rw c.in-Jmp.is refl) (rw c.in-Jmp.is (grind (arith, common_steps, c.from-in-Jmp.ensures)))

pub returns-in-Slot : goal.returns-in-Slot
returns-in-Slot c =
    instr_added c.add_list-in-Slot.result c.args.instr c.args.text.now.items c.add_list-in-Slot.new.text.items (codes "[\"slot\"") _
    c.add_list-in-Slot.ensures (rw c.in-Slot.is refl) (rw c.in-Slot.is (grind (arith, common_steps, c.register-in-Slot.ensures)))

pub returns-in-Width : goal.returns-in-Width
returns-in-Width c =
    instr_added c.add_list-in-Width.result c.args.instr c.args.text.now.items c.add_list-in-Width.new.text.items (codes "[\"width\"") _
    c.add_list-in-Width.ensures (rw c.in-Width.is refl) (rw c.in-Width.is (grind (arith, common_steps, c.register-in-Width.ensures)))

pub returns-in-Spawn : goal.returns-in-Spawn
returns-in-Spawn c =
    instr_added c.add_list-in-Spawn.result c.args.instr c.args.text.now.items c.add_list-in-Spawn.new.text.items (codes "[\"spawn\"") _
    c.add_list-in-Spawn.ensures (rw c.in-Spawn.is refl)
    (rw c.in-Spawn.is (grind (arith, common_steps, c.group.ensures, c.from-in-Spawn.ensures, c.register-in-Spawn.ensures, c.register-in-Spawn-2.ensures)))

pub returns-in-Post : goal.returns-in-Post
returns-in-Post c =
    instr_added c.add_list-in-Post.result c.args.instr c.args.text.now.items c.add_list-in-Post.new.text.items (codes "[\"post\"") _
    c.add_list-in-Post.ensures (rw c.in-Post.is refl) (rw c.in-Post.is (grind (arith, common_steps, c.from-in-Post.ensures, c.register-in-Post.ensures, c.register-in-Post-2.ensures)))

pub returns-in-Wait : goal.returns-in-Wait
returns-in-Wait c =
    instr_added c.add_list-in-Wait.result c.args.instr c.args.text.now.items c.add_list-in-Wait.new.text.items (codes "[\"wait\"") _
    c.add_list-in-Wait.ensures (rw c.in-Wait.is refl) (rw c.in-Wait.is (grind (arith, common_steps, c.register-in-Wait.ensures, c.register-in-Wait-2.ensures, c.group-in-Wait.ensures)))

pub returns-in-Cancel : goal.returns-in-Cancel
returns-in-Cancel c =
    instr_added c.add_list-in-Cancel.result c.args.instr c.args.text.now.items c.add_list-in-Cancel.new.text.items (codes "[\"cancel\"") _
    c.add_list-in-Cancel.ensures (rw c.in-Cancel.is refl) (rw c.in-Cancel.is (grind (arith, common_steps, c.group-in-Cancel.ensures)))

pub returns-in-Ask : goal.returns-in-Ask
returns-in-Ask c =
    instr_added c.add_list-in-Ask.result c.args.instr c.args.text.now.items c.add_list-in-Ask.new.text.items (codes "[\"ask\"") _
    c.add_list-in-Ask.ensures (rw c.in-Ask.is refl) (rw c.in-Ask.is (grind (arith, common_steps, c.register-in-Ask.ensures)))

pub returns-in-Isolate : goal.returns-in-Isolate
returns-in-Isolate c =
    instr_added c.add_list-in-Isolate.result c.args.instr c.args.text.now.items c.add_list-in-Isolate.new.text.items (codes "[\"isolate\"") _
    c.add_list-in-Isolate.ensures (rw c.in-Isolate.is refl)
    (rw c.in-Isolate.is (grind (arith, common_steps, c.register-in-Isolate.ensures, c.from-in-Isolate.ensures, c.register-in-Isolate-2.ensures, c.register-in-Isolate-3.ensures)))

pub returns-in-Load : goal.returns-in-Load
returns-in-Load c =
    instr_added c.add_list-in-Load.result c.args.instr c.args.text.now.items c.add_list-in-Load.new.text.items (codes "[\"load\"") _
    c.add_list-in-Load.ensures (rw c.in-Load.is refl) (rw c.in-Load.is (grind (arith, common_steps, c.register-in-Load.ensures, c.key.ensures)))

pub returns-in-Store : goal.returns-in-Store
returns-in-Store c =
    instr_added c.add_list-in-Store.result c.args.instr c.args.text.now.items c.add_list-in-Store.new.text.items (codes "[\"store\"") _
    c.add_list-in-Store.ensures (rw c.in-Store.is refl) (rw c.in-Store.is (grind (arith, common_steps, c.key-in-Store.ensures, c.register-in-Store.ensures)))

pub returns-in-Sum : goal.returns-in-Sum
returns-in-Sum c =
    instr_added c.add_list-in-Sum.result c.args.instr c.args.text.now.items c.add_list-in-Sum.new.text.items (codes "[\"sum\"") _
    c.add_list-in-Sum.ensures (rw c.in-Sum.is refl) (rw c.in-Sum.is (grind (arith, common_steps, c.register-in-Sum.ensures, c.key-in-Sum.ensures)))

pub returns-in-Count : goal.returns-in-Count
returns-in-Count c =
    instr_added c.add_list-in-Count.result c.args.instr c.args.text.now.items c.add_list-in-Count.new.text.items (codes "[\"count\"") _
    c.add_list-in-Count.ensures (rw c.in-Count.is refl) (rw c.in-Count.is (grind (arith, common_steps, c.register-in-Count.ensures, c.key-in-Count.ensures)))

pub returns-in-Ret : goal.returns-in-Ret
returns-in-Ret c =
    instr_added c.add_list-in-Ret.result c.args.instr c.args.text.now.items c.add_list-in-Ret.new.text.items (codes "[\"ret\"") _
    c.add_list-in-Ret.ensures (rw c.in-Ret.is refl) (rw c.in-Ret.is (grind (arith, common_steps, c.register-in-Ret.ensures)))
