mod Replays
