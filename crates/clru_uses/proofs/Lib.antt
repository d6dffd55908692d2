mod Failing
mod Watching
